-- What is read has settings within their limits.
use Rattle.std.proofs.Common.{◌≡◌, ℕ, ◌≤◌, ◌<◌, ◌&&◌, min, List, Bool, true, false, cond, eqb, ltb, Option, Some, None, option_map, option_and_then, Result, Ok, Err, IfOk, IfSome, codes, arith, refl}
use Rattle.std.proofs.lemmas.Bool.{ltb-true, eqb-false}
use Rattle.std.specs.Str.{bytes_eq}
use Rattle.serde_json.specs.Data.{Data}
use Rattle.serde_json.specs.Find.{get}
use Rattle.serde_json.specs.Read.{read}
use Rattle.rt_base.specs.declared.limits.TheConstants.{MOST_ROWS}
use Rattle.rt_schema.proofs.Picks.{IsPick, indexed_picked}
use Rattle.rt_schema.proofs.Schemas.{answered_has}
use Rattle.rt_schema.specs.Json.{if_object, text_at, is_given}
use Rattle.rt_schema.specs.Schema.{names_of}
use Rattle.rt_schema.specs.SchemaText.{Answers, where_given}
use Rattle.rt_schema.specs.Setting.{number_of}
use Rattle.rt_names.specs.Table.{is_table_name}
use Rattle.rt_schema.specs.TableText.{is_section, inside, replication_of, row_limit, millis_of, stream_of, texts_at, indexed_of, index_of, base_name, table_named, table_with, table_in, table_of, IsTable}
use Rattle.rt_schema.specs.declared.index_config.IndexConfig.{IndexConfig}
use Rattle.rt_schema.specs.declared.index_config.StreamConfig.{StreamConfig}
use Rattle.rt_schema.specs.declared.schema.Schema.{Schema}
use Rattle.rt_schema.specs.declared.table.Table.{Table}
use Rattle.rt_schema.specs.declared.schema_refused.SchemaRefused.{SchemaRefused}
use Rattle.rt_schema.specs.declared.schema_refused.SchemaRefused.TheVariants.{NotJson, MissingField, UnknownType, Limit}

-- a row limit
abbrev IsLimit : ℕ → Type 0
IsLimit rows = (1 ≤ rows) × (rows ≤ MOST_ROWS)

limit_at : (n : ℕ) (b : Bool) → eqb n 0 ≡ b → IsLimit (cond b MOST_ROWS (min n MOST_ROWS))
limit_at n true e = (omega arith, omega arith)
limit_at n false e = let some : n ≡ 0 → ⊥ = eqb-false n 0 e in (omega arith, omega arith)

limited : (o : Option ℕ) → IfSome (option_map row_limit o) IsLimit
limited None = tt
limited (Some n) = limit_at n _ refl

rows_at : (given : Bool) (o : Option ℕ) → IfSome (cond given (option_map row_limit o) (Some MOST_ROWS)) IsLimit
rows_at true o = limited o
rows_at false o = (omega arith, omega arith)

stream_with : (rows millis : Option ℕ) → IfSome rows IsLimit → IfSome (option_and_then (λ r. option_map (λ m. record { rows = r; millis = m }) millis) rows) (λ (stream : StreamConfig). IsLimit stream.rows)
stream_with None millis h = tt
stream_with (Some r) None h = tt
stream_with (Some r) (Some m) h = h

stream_at : (b : Bool) (o : Option StreamConfig) → IfSome o (λ stream. IsLimit stream.rows) → IfSome (cond b o None) (λ stream. IsLimit stream.rows)
stream_at true o h = h
stream_at false o h = tt

stream_limited : (section : Option Data) → IfSome (stream_of section) (λ stream. IsLimit stream.rows)
stream_limited section =
    stream_at (is_section section) _ (stream_with _ (millis_of (inside (codes "realtime.segment.flush.threshold.time") section))
    (rows_at (is_given (inside (codes "realtime.segment.flush.threshold.rows") section)) (option_and_then number_of (inside (codes "realtime.segment.flush.threshold.rows") section))))

-- what is known of the section of indexes
abbrev IsIndex : List (List ℕ) → IndexConfig → Type 0
IsIndex names index = IsPick names index.indexed × IsLimit index.stream.rows

index_with : (names : List (List ℕ)) (indexed : Option (List (List ℕ))) (stream : Option StreamConfig) → IfSome indexed (IsPick names) → IfSome stream (λ s. IsLimit s.rows)
    → IfSome (option_and_then (λ i. option_map (λ s. record { indexed = i; stream = s }) stream) indexed) (IsIndex names)
index_with names None stream k h = tt
index_with names (Some i) None k h = tt
index_with names (Some i) (Some s) k h = (k, h)

index_at : (names : List (List ℕ)) (b : Bool) (o : Option IndexConfig) → IfSome o (IsIndex names) → IfSome (cond b o None) (IsIndex names)
index_at names true o h = h
index_at names false o h = tt

index_limited : (names : List (List ℕ)) (section : Option Data) → IfSome (index_of names section) (IsIndex names)
index_limited names section =
    index_at names (is_section section) _ (index_with names (indexed_of names (inside (codes "invertedIndexColumns") section)) _
    (indexed_picked names (texts_at (inside (codes "invertedIndexColumns") section))) (stream_limited (inside (codes "streamConfigs") section)))

named_at : (schema : Schema) (name : List ℕ) (replication : ℕ) (index : IndexConfig) (n r : Bool) → is_table_name name ≡ n → ltb 0 replication ≡ r → IsIndex (names_of schema.columns) index
    → IfOk (cond (n && r) (Ok (record { name = name; replication = min replication 4294967295; indexed = index.indexed; rows = index.stream.rows; millis = index.stream.millis })) (Err Limit)) (IsTable schema)
named_at schema name replication index true true n r h =
    let some : 0 < replication = ltb-true 0 replication r in
    record { named = n; replicated = (omega arith, omega arith); rows = h.1; columns = h.0.0; ordered = h.0.1 }
named_at schema name replication index true false n r h = tt
named_at schema name replication index false r' n r h = tt

with_type : (schema : Schema) (b : Bool) (name : List ℕ) (replication : ℕ) (index : IndexConfig) → IsIndex (names_of schema.columns) index → IfOk (cond b (table_named name replication index) (Err UnknownType)) (IsTable schema)
with_type schema true name replication index h = named_at schema name replication index _ _ refl refl h
with_type schema false name replication index h = tt

with_index : (schema : Schema) (name type : List ℕ) (replication : ℕ) (o : Option IndexConfig) → IfSome o (IsIndex (names_of schema.columns)) → IfOk (where_given MissingField o (table_with name type replication)) (IsTable schema)
with_index schema name type replication None h = tt
with_index schema name type replication (Some index) h = with_type schema (bytes_eq type (codes "REALTIME")) (base_name name) replication index h

with_replication : (schema : Schema) (name type : List ℕ) (section : Option Data) (o : Option ℕ)
    → IfOk (where_given MissingField o (λ replication. where_given MissingField (index_of (names_of schema.columns) section) (table_with name type replication))) (IsTable schema)
with_replication schema name type section None = tt
with_replication schema name type section (Some replication) = with_index schema name type replication (index_of (names_of schema.columns) section) (index_limited (names_of schema.columns) section)

with_type_at : (schema : Schema) (d : Data) (name : List ℕ) (o : Option (List ℕ))
    → IfOk (where_given MissingField o (λ type. where_given MissingField (replication_of (get (codes "segmentsConfig") d)) (λ replication. where_given MissingField (index_of (names_of schema.columns) (get (codes "tableIndexConfig") d)) (table_with name type replication)))) (IsTable schema)
with_type_at schema d name None = tt
with_type_at schema d name (Some type) = with_replication schema name type (get (codes "tableIndexConfig") d) (replication_of (get (codes "segmentsConfig") d))

with_name : (schema : Schema) (d : Data) (o : Option (List ℕ))
    → IfOk (where_given MissingField o (λ name. where_given MissingField (text_at (codes "tableType") d) (λ type. where_given MissingField (replication_of (get (codes "segmentsConfig") d)) (λ replication. where_given MissingField (index_of (names_of schema.columns) (get (codes "tableIndexConfig") d)) (table_with name type replication))))) (IsTable schema)
with_name schema d None = tt
with_name schema d (Some name) = with_type_at schema d name (text_at (codes "tableType") d)

with_object : (schema : Schema) (o : Option Data) → IfOk (where_given NotJson o (table_in (names_of schema.columns))) (IsTable schema)
with_object schema None = tt
with_object schema (Some d) = with_name schema d (text_at (codes "tableName") d)

-- what is answered is a table's settings
pub answered_is_table : (schema : Schema) (text : List ℕ) (result : Result Table SchemaRefused) → Answers (table_of schema text) result → IfOk result (IsTable schema)
answered_is_table schema text result a = answered_has (IsTable schema) (table_of schema text) result (with_object schema (option_and_then if_object (read text))) a
