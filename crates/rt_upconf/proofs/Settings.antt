-- What is answered names columns.
use Rattle.std.proofs.Common.{◌≡◌, ℕ, ◌≤◌, List, [], ◌∷◌, length, Bool, true, false, cond, Option, Some, None, option_and_then, Result, Ok, Err, IfOk, IfSome, codes, arith, refl, sym, subst}
use Rattle.std.specs.Str.{bytes_eq}
use Rattle.serde_json.specs.Data.{Data}
use Rattle.rt_schema.specs.Json.{if_object, text_at, is_given}
use Rattle.rt_schema.specs.TableText.{inside, texts_at}
use Rattle.rt_schema.specs.declared.column.Column.{Column}
use Rattle.rt_schema.specs.declared.schema.Schema.{Schema}
use Rattle.rt_upconf.specs.declared.upsert_config.UpsertConfig.{UpsertConfig}
use Rattle.rt_upconf.specs.declared.upsert_refused.UpsertRefused.{UpsertRefused}
use Rattle.rt_upconf.specs.declared.upsert_refused.UpsertRefused.TheVariants.{NotObject, Mode, NoKeys, Comparison, NoColumn, WrongType}
use Rattle.rt_upconf.specs.Upsert.{Answers, where_given, column_at, are_columns, is_comparable, if_some, comparison_of, config_of, config_with, full_of, by_mode, configured, time_of, upsert_at, object_of, upsert_of, IsUpsertConfig}

abbrev IsFound : Schema → Option UpsertConfig → Type 0
IsFound schema found = IfSome found (IsUpsertConfig schema)

of_kind : (schema : Schema) (keys : List (List ℕ)) (compare : List ℕ) (column : Column) (b : Bool) → 1 ≤ length keys → are_columns schema.columns keys ≡ true
    → column_at compare schema.columns ≡ Some column → is_comparable column.kind ≡ b
    → IfOk (cond b (Ok (Some (record { keys = keys; compare = compare }))) (Err WrongType)) (IsFound schema)
of_kind schema keys compare column true some all at kind = record { keyed = some; keys = all; compare = (column, at, kind) }
of_kind schema keys compare column false some all at kind = tt

of_column : (schema : Schema) (keys : List (List ℕ)) (compare : List ℕ) (o : Option Column) → 1 ≤ length keys → are_columns schema.columns keys ≡ true
    → column_at compare schema.columns ≡ o → IfOk (config_of keys compare o) (IsFound schema)
of_column schema keys compare None some all at = tt
of_column schema keys compare (Some column) some all at = of_kind schema keys compare column _ some all at refl

of_keys : (schema : Schema) (keys : List (List ℕ)) (compare : List ℕ) (b : Bool) → 1 ≤ length keys → are_columns schema.columns keys ≡ b
    → IfOk (cond b (config_of keys compare (column_at compare schema.columns)) (Err NoColumn)) (IsFound schema)
of_keys schema keys compare true some all = of_column schema keys compare _ some all refl
of_keys schema keys compare false some all = tt

of_names : (schema : Schema) (keys : List (List ℕ)) (named : Option (List ℕ)) → 1 ≤ length keys → IfOk (config_with schema.columns keys named) (IsFound schema)
of_names schema keys None some = tt
of_names schema keys (Some compare) some = of_keys schema keys compare _ some refl

of_comparison : (schema : Schema) (keys : List (List ℕ)) (o : Option (Option (List ℕ))) → 1 ≤ length keys → IfOk (where_given Comparison o (config_with schema.columns keys)) (IsFound schema)
of_comparison schema keys None some = tt
of_comparison schema keys (Some named) some = of_names schema keys named some

of_full : (schema : Schema) (o : Option (List (List ℕ))) (named : Option (Option (List ℕ)))
    → IfOk (where_given NoKeys (option_and_then if_some o) (λ keys. where_given Comparison named (config_with schema.columns keys))) (IsFound schema)
of_full schema None named = tt
of_full schema (Some []) named = tt
of_full schema (Some (key ∷ keys)) named = of_comparison schema (key ∷ keys) named (omega arith)

of_test : (schema : Schema) (b : Bool) (x y : Result (Option UpsertConfig) UpsertRefused) → IfOk x (IsFound schema) → IfOk y (IsFound schema) → IfOk (cond b x y) (IsFound schema)
of_test schema true x y h k = h
of_test schema false x y h k = k

of_mode : (schema : Schema) (o : Option (List ℕ)) (full : Result (Option UpsertConfig) UpsertRefused) → IfOk full (IsFound schema)
    → IfOk (where_given Mode o (λ mode. by_mode mode full)) (IsFound schema)
of_mode schema None full h = tt
of_mode schema (Some mode) full h =
    of_test schema (bytes_eq mode (codes "NONE")) (Ok None) (cond (bytes_eq mode (codes "FULL")) full (Err Mode)) tt
    (of_test schema (bytes_eq mode (codes "FULL")) full (Err Mode) h tt)

of_object : (schema : Schema) (keyed : Option Data) (time : Option (List ℕ)) (o : Option Data) → IfOk (where_given NotObject o (configured schema.columns keyed time)) (IsFound schema)
of_object schema keyed time None = tt
of_object schema keyed time (Some config) =
    of_mode schema (text_at (codes "mode") config) (full_of schema.columns keyed time config)
    (of_full schema (texts_at (inside (codes "primaryKeyColumns") keyed)) (comparison_of config time))

of_table : (schema : Schema) (keyed table : Option Data) → IfOk (upsert_at schema.columns keyed table) (IsFound schema)
of_table schema keyed table =
    of_test schema (is_given (inside (codes "upsertConfig") table))
    (where_given NotObject (option_and_then if_object (inside (codes "upsertConfig") table)) (configured schema.columns keyed (time_of table))) (Ok None)
    (of_object schema keyed (time_of table) (option_and_then if_object (inside (codes "upsertConfig") table))) tt

answered : {T : Type 0} (P : T → Type 0) (wanted result : Result T UpsertRefused) → IfOk wanted P → Answers wanted result → IfOk result P
answered P wanted (Ok x) h a = subst (λ r. IfOk r P) (sym a) h
answered P wanted (Err refused) h a = tt

-- what is answered is a table's upsert settings, or none
pub answered_is_config : (schema : Schema) (schema_text table_text : List ℕ) (result : Result (Option UpsertConfig) UpsertRefused)
    → Answers (upsert_of schema schema_text table_text) result → IfOk result (λ found. IfSome found (IsUpsertConfig schema))
answered_is_config schema schema_text table_text result a =
    answered (IsFound schema) (upsert_of schema schema_text table_text) result (of_table schema (object_of schema_text) (object_of table_text)) a
