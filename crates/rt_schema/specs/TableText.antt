-- The table settings that a text has, or the first refusal that applies.
use Rattle.std.specs.Prelude.{◌≡◌, ◌≤◌, ℕ, All, IsTrue, ◌-◌, ◌==◌, ◌&&◌, min, List, [], ◌∷◌, length, filter, take, Bool, true, false, nat_lt, nat_eq, codes, Option, Some, None, option_map, option_and_then, Result, Ok, Err, if◌then◌else◌}
use Rattle.std.specs.List.{ends_with}
use Rattle.std.specs.Str.{bytes_eq}
use Rattle.serde_json.specs.Data.{Data, null, boolean, number, string, array, object}
use Rattle.serde_json.specs.Find.{get, as_str, as_array}
use Rattle.serde_json.specs.Read.{read}
use Rattle.rt_names.specs.Table.{is_table_name, IsTableName}
use Rattle.rt_base.specs.declared.limits.TheConstants.{MOST_ROWS}
use Rattle.rt_schema.specs.Json.{map_all, items_of, if_object, text_at, is_given}
use Rattle.rt_schema.specs.Schema.{names_of, is_among}
use Rattle.rt_schema.specs.SchemaText.{where_given}
use Rattle.rt_schema.specs.Setting.{number_of, time_of}
use Rattle.rt_schema.specs.declared.index_config.IndexConfig.{IndexConfig}
use Rattle.rt_schema.specs.declared.index_config.StreamConfig.{StreamConfig}
use Rattle.rt_schema.specs.declared.schema.Schema.{Schema}
use Rattle.rt_schema.specs.declared.table.Table.{Table}
use Rattle.rt_schema.specs.declared.schema_refused.SchemaRefused.{SchemaRefused}
use Rattle.rt_schema.specs.declared.schema_refused.SchemaRefused.TheVariants.{NotJson, MissingField, UnknownType, Limit}

-- a section is an object, or absent or null
abbrev pub is_section : Option Data → Bool
is_section None = true
is_section (Some null) = true
is_section (Some (boolean b)) = false
is_section (Some (number n)) = false
is_section (Some (string s)) = false
is_section (Some (array ds)) = false
is_section (Some (object ms)) = true

-- the value at a key of a section
abbrev pub inside : List ℕ → Option Data → Option Data
inside key section = option_and_then (get key) section

-- the first of two number settings that is given
abbrev pub first_number : Option Data → Option Data → Option ℕ
first_number first second = if is_given first then option_and_then number_of first else option_and_then number_of second

-- the replicas of each segment
abbrev pub replication_of : Option Data → Option ℕ
replication_of section = first_number (inside (codes "replicasPerPartition") section) (inside (codes "replication") section)

-- the row limit: 0 and larger numbers count as the most rows
abbrev pub row_limit : ℕ → ℕ
row_limit n = if n == 0 then MOST_ROWS else min n MOST_ROWS

abbrev pub rows_of : Option Data → Option ℕ
rows_of found = if is_given found then option_map row_limit (option_and_then number_of found) else Some MOST_ROWS

-- the time limit, six hours where none is given
abbrev pub millis_of : Option Data → Option ℕ
millis_of found = if is_given found then option_and_then time_of found else Some 21600000

abbrev pub stream_of : Option Data → Option StreamConfig
stream_of section =
    if is_section section then
    option_and_then (λ rows. option_map (λ millis. record { rows = rows; millis = millis }) (millis_of (inside (codes "realtime.segment.flush.threshold.time") section)))
    (rows_of (inside (codes "realtime.segment.flush.threshold.rows") section))
    else None

-- the texts of an array, or none where the key is absent or null
abbrev pub texts_at : Option Data → Option (List (List ℕ))
texts_at found = if is_given found then option_and_then (λ ds. map_all as_str (items_of ds)) (option_and_then as_array found) else Some []

abbrev pub all_among : List (List ℕ) → List (List ℕ) → Bool
all_among [] names = true
all_among (text ∷ texts) names = is_among text names && all_among texts names

-- the names that are asked for, in their own order, where only names are
abbrev pub chosen_of : List (List ℕ) → List (List ℕ) → Option (List (List ℕ))
chosen_of names asked = if all_among asked names then Some (filter (λ name. is_among name asked) names) else None

abbrev pub indexed_of : List (List ℕ) → Option Data → Option (List (List ℕ))
indexed_of names found = option_and_then (chosen_of names) (texts_at found)

abbrev pub index_of : List (List ℕ) → Option Data → Option IndexConfig
index_of names section =
    if is_section section then
    option_and_then (λ indexed. option_map (λ stream. record { indexed = indexed; stream = stream }) (stream_of (inside (codes "streamConfigs") section)))
    (indexed_of names (inside (codes "invertedIndexColumns") section))
    else None

-- a table's name without one suffix
abbrev pub base_name : List ℕ → List ℕ
base_name name = if ends_with nat_eq name (codes "_REALTIME") then take (length name - 9) name else name

-- a name and a replication within their limits; a larger replication is kept as 4,294,967,295
abbrev pub table_named : List ℕ → ℕ → IndexConfig → Result Table SchemaRefused
table_named name replication index =
    if is_table_name name && nat_lt 0 replication then Ok (record { name = name; replication = min replication 4294967295; indexed = index.indexed; rows = index.stream.rows; millis = index.stream.millis })
    else Err Limit

abbrev pub table_with : List ℕ → List ℕ → ℕ → IndexConfig → Result Table SchemaRefused
table_with name type replication index = if bytes_eq type (codes "REALTIME") then table_named (base_name name) replication index else Err UnknownType

-- the table settings of an object, for columns of these names
abbrev pub table_in : List (List ℕ) → Data → Result Table SchemaRefused
table_in names d =
    where_given MissingField (text_at (codes "tableName") d) (λ name.
    where_given MissingField (text_at (codes "tableType") d) (λ type.
    where_given MissingField (replication_of (get (codes "segmentsConfig") d)) (λ replication.
    where_given MissingField (index_of names (get (codes "tableIndexConfig") d)) (table_with name type replication))))

-- the table settings of a text
abbrev pub table_of : Schema → List ℕ → Result Table SchemaRefused
table_of schema text = where_given NotJson (option_and_then if_object (read text)) (table_in (names_of schema.columns))

-- table settings as `read_table` gives them for a schema: the indexed columns are those columns of the schema, in its order, whose names are among the indexed
pub record IsTable (schema : Schema) (table : Table) : Type 0 where
  pub named : IsTableName table.name
  pub replicated : (1 ≤ table.replication) × (table.replication ≤ 4294967295)
  pub rows : (1 ≤ table.rows) × (table.rows ≤ MOST_ROWS)
  pub columns : All (λ name. IsTrue (is_among name (names_of schema.columns))) table.indexed
  pub ordered : table.indexed ≡ filter (λ name. is_among name table.indexed) (names_of schema.columns)
