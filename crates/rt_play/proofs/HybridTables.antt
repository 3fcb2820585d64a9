-- A hybrid table is one of the schema that it was made of.
use Rattle.std.proofs.Common.{◌≡◌, ℕ, List, Option, Some, None, refl, subst}
use Rattle.std.specs.Prelude.{IfSome, option_map}
use Rattle.rt_hybrid.specs.Table.{OfflineTable, place_of, start_at, start_of}
use Rattle.rt_schema.specs.declared.schema.Schema.{Schema}

start_of_place : (schema : Schema) (place : Option ℕ) → IfSome (option_map (start_at schema) place) (λ table. table.schema ≡ schema)
start_of_place schema None = tt
start_of_place schema (Some place) = refl

pub start_is : (schema : Schema) (name : List ℕ) → IfSome (start_of schema name) (λ table. table.schema ≡ schema)
start_is schema name = start_of_place schema (place_of name schema.columns)

pub made_is : (schema : Schema) (name : List ℕ) (table : OfflineTable) → start_of schema name ≡ Some table → table.schema ≡ schema
made_is schema name table e = subst (λ (made : Option OfflineTable). IfSome made (λ t. t.schema ≡ schema)) e (start_is schema name)
