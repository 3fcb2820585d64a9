-- The upsert settings that a schema's text and a table's text have, or the first refusal that applies.
use Rattle.std.specs.Prelude.{◌≡◌, ℕ, ◌≤◌, ◌&&◌, List, [], ◌∷◌, length, Bool, true, false, is_some, codes, Option, Some, None, option_map, option_and_then, Result, Ok, Err, if◌then◌else◌}
use Rattle.std.specs.Str.{bytes_eq}
use Rattle.serde_json.specs.Data.{Data}
use Rattle.serde_json.specs.Find.{get, as_str}
use Rattle.serde_json.specs.Read.{read}
use Rattle.rt_schema.specs.Json.{if_object, text_at, is_given}
use Rattle.rt_schema.specs.TableText.{inside, texts_at}
use Rattle.rt_schema.specs.declared.column.Column.{Column}
use Rattle.rt_schema.specs.declared.column.Kind.{Kind}
use Rattle.rt_schema.specs.declared.column.Kind.TheVariants.{Int, Long, Text, Bool as Truth, Time}
use Rattle.rt_schema.specs.declared.schema.Schema.{Schema}
use Rattle.rt_upconf.specs.declared.upsert_config.UpsertConfig.{UpsertConfig}
use Rattle.rt_upconf.specs.declared.upsert_refused.UpsertRefused.{UpsertRefused}
use Rattle.rt_upconf.specs.declared.upsert_refused.UpsertRefused.TheVariants.{NotObject, Mode, NoKeys, Comparison, NoColumn, WrongType, Memory}

-- the answer is this one, unless memory ran out
abbrev pub Answers : {T : Type 0} → Result T UpsertRefused → Result T UpsertRefused → Type 0
Answers wanted (Ok x) = Ok x ≡ wanted
Answers wanted (Err NotObject) = Err NotObject ≡ wanted
Answers wanted (Err Mode) = Err Mode ≡ wanted
Answers wanted (Err NoKeys) = Err NoKeys ≡ wanted
Answers wanted (Err Comparison) = Err Comparison ≡ wanted
Answers wanted (Err NoColumn) = Err NoColumn ≡ wanted
Answers wanted (Err WrongType) = Err WrongType ≡ wanted
Answers wanted (Err Memory) = Unit {0}

-- what f gives at a value that is there, and else a refusal
abbrev pub where_given : {A B : Type 0} → UpsertRefused → Option A → (A → Result B UpsertRefused) → Result B UpsertRefused
where_given refused None f = Err refused
where_given refused (Some a) f = f a

-- the first column of a name
abbrev pub column_at : List ℕ → List Column → Option Column
column_at name [] = None
column_at name (column ∷ columns) = if bytes_eq name column.name then Some column else column_at name columns

abbrev pub are_columns : List Column → List (List ℕ) → Bool
are_columns columns [] = true
are_columns columns (name ∷ names) = is_some (column_at name columns) && are_columns columns names

-- rows are compared by whole numbers and moments
abbrev pub is_comparable : Kind → Bool
is_comparable Int = true
is_comparable Long = true
is_comparable Text = false
is_comparable Truth = false
is_comparable Time = true

-- at least one text
abbrev pub if_some : List (List ℕ) → Option (List (List ℕ))
if_some [] = None
if_some (key ∷ keys) = Some (key ∷ keys)

-- the key columns of a schema's text
abbrev pub keys_of : Option Data → Option (List (List ℕ))
keys_of keyed = option_and_then if_some (texts_at (inside (codes "primaryKeyColumns") keyed))

-- the single comparison column, and where it isn't given the time column; none where it is given and no text
abbrev pub fallback_of : Option Data → Option (List ℕ) → Option (Option (List ℕ))
fallback_of single time = if is_given single then option_map Some (option_and_then as_str single) else Some time

abbrev pub comparison_from : Option Data → Option (List ℕ) → List (List ℕ) → Option (Option (List ℕ))
comparison_from single time [] = fallback_of single time
comparison_from single time (name ∷ []) = Some (Some name)
comparison_from single time (name ∷ (other ∷ names)) = None

-- the name of the comparison column, where one is named; nothing where the settings name it in no way that is taken
abbrev pub comparison_of : Data → Option (List ℕ) → Option (Option (List ℕ))
comparison_of config time = option_and_then (comparison_from (get (codes "comparisonColumn") config) time) (texts_at (get (codes "comparisonColumns") config))

abbrev pub config_of : List (List ℕ) → List ℕ → Option Column → Result (Option UpsertConfig) UpsertRefused
config_of keys compare None = Err NoColumn
config_of keys compare (Some column) = if is_comparable column.kind then Ok (Some (record { keys = keys; compare = compare })) else Err WrongType

-- the settings with these keys, where each name is a column's
abbrev pub config_with : List Column → List (List ℕ) → Option (List ℕ) → Result (Option UpsertConfig) UpsertRefused
config_with columns keys None = Err NoColumn
config_with columns keys (Some compare) = if are_columns columns keys then config_of keys compare (column_at compare columns) else Err NoColumn

-- the settings of mode FULL
abbrev pub full_of : List Column → Option Data → Option (List ℕ) → Data → Result (Option UpsertConfig) UpsertRefused
full_of columns keyed time config = where_given NoKeys (keys_of keyed) (λ keys. where_given Comparison (comparison_of config time) (config_with columns keys))

abbrev pub by_mode : List ℕ → Result (Option UpsertConfig) UpsertRefused → Result (Option UpsertConfig) UpsertRefused
by_mode mode full =
    if bytes_eq mode (codes "NONE") then Ok None
    else (if bytes_eq mode (codes "FULL") then full else Err Mode)

-- what an object of settings says, by its mode
abbrev pub configured : List Column → Option Data → Option (List ℕ) → Data → Result (Option UpsertConfig) UpsertRefused
configured columns keyed time config = where_given Mode (text_at (codes "mode") config) (λ mode. by_mode mode (full_of columns keyed time config))

-- the time column that the table names
abbrev pub time_of : Option Data → Option (List ℕ)
time_of table = option_and_then as_str (inside (codes "timeColumnName") (inside (codes "segmentsConfig") table))

-- the settings of a table's object, none where it has no `upsertConfig`
abbrev pub upsert_at : List Column → Option Data → Option Data → Result (Option UpsertConfig) UpsertRefused
upsert_at columns keyed table =
    if is_given (inside (codes "upsertConfig") table) then
    where_given NotObject (option_and_then if_object (inside (codes "upsertConfig") table)) (configured columns keyed (time_of table))
    else Ok None

abbrev pub object_of : List ℕ → Option Data
object_of text = option_and_then if_object (read text)

-- the time column that a table's text names
abbrev pub time_column_of : List ℕ → Option (List ℕ)
time_column_of table_text = time_of (object_of table_text)

-- the settings that the texts of a schema and of a table have
abbrev pub upsert_of : Schema → List ℕ → List ℕ → Result (Option UpsertConfig) UpsertRefused
upsert_of schema schema_text table_text = upsert_at schema.columns (object_of schema_text) (object_of table_text)

-- settings as `read_upsert` gives them for a schema: at least one key, each name a column's, and a comparison column of whole numbers or moments
pub record IsUpsertConfig (schema : Schema) (config : UpsertConfig) : Type 0 where
  pub keyed : 1 ≤ length config.keys
  pub keys : are_columns schema.columns config.keys ≡ true
  pub compare : (column : Column) × (column_at config.compare schema.columns ≡ Some column) × (is_comparable column.kind ≡ true)
