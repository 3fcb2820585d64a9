-- The table of a schema before its first push.
use Rattle.std.proofs.Common.{◌≡◌, ℕ, suc, Bool, true, false, cond, List, [], ◌∷◌, Option, Some, None, option_map, refl, subst, arith}
use Rattle.std.proofs.lemmas.Bool.{and_parts}
use Rattle.std.proofs.lemmas.List.Elements.{All-nil}
use Rattle.std.proofs.lemmas.Option.{none-some, same_Some}
use Rattle.std.specs.Prelude.{bytes_eq}
use Rattle.rt_schema.specs.Schema.{IsSchema}
use Rattle.rt_schema.specs.declared.column.Column.{Column}
use Rattle.rt_schema.specs.declared.schema.Schema.{Schema}
use Rattle.rt_hybrid.specs.Pushes.{IsOffline, IsPushed, IsTimed}
use Rattle.rt_hybrid.specs.Table.{is_time, is_time_column, place_of, start_at}

later_is : (o : Option ℕ) (place : ℕ) → option_map suc o ≡ Some place → (n : ℕ) × (o ≡ Some n) × (suc n ≡ place)
later_is None place e = absurd (none-some place e)
later_is (Some n) place e = (n, refl, same_Some (suc n) place e)

pub is_timed : (name : List ℕ) (columns : List Column) (place : ℕ) → place_of name columns ≡ Some place → IsTimed columns place
is_timed name [] place e = absurd (none-some place e)
is_timed name (c ∷ columns) place e = by (is_time_column name c) refl e (λ n f. is_timed name columns n f)
  where
    by : (b : Bool) → is_time_column name c ≡ b → cond b (Some 0) (option_map suc (place_of name columns)) ≡ Some place
        → ((n : ℕ) → place_of name columns ≡ Some n → IsTimed columns n) → IsTimed (c ∷ columns) place
    by true is f later =
        let here : 0 ≡ place = same_Some 0 place f in
        subst (IsTimed (c ∷ columns)) here (record { column = c; at = refl; kind = (and_parts (bytes_eq name c.name) (is_time c.kind) is).1 })
    by false is f later =
        let n = later_is (place_of name columns) place f in
        let rest = later n.0 n.1 in
        subst (IsTimed (c ∷ columns)) n.2 (record { column = rest.column; at = rest.at; kind = rest.kind })

-- it is a table
pub start_is : (schema : Schema) (name : List ℕ) (place : ℕ) → IsSchema schema → place_of name schema.columns ≡ Some place → IsOffline (start_at schema place) None
start_is schema name place is e = record {
  schema = is;
  timed = is_timed name schema.columns place e;
  few = omega arith;
  pushed = All-nil (IsPushed schema);
  greatest = refl;
}
