-- The row of a message, and the rows of a range of a log.
use Rattle.std.specs.Prelude.{◌≡◌, ◌≤◌, ℕ, ◌-◌, All, List, [], length, map, take, drop, filter_map, slice_index_or, Option, None, option_map, option_and_then, if◌then◌else◌}
use Rattle.std.specs.Str.{is_utf8}
use Rattle.serde_json.specs.Data.{Data, null, boolean, number, string, array, object, Members}
use Rattle.serde_json.specs.Find.{get_member}
use Rattle.serde_json.specs.Read.{read}
use Rattle.rt_schema.specs.Json.{map_all}
use Rattle.rt_schema.specs.Value.{kind_of, cell_of}
use Rattle.rt_schema.specs.declared.column.Column.{Column}
use Rattle.rt_schema.specs.declared.schema.Schema.{Schema}
use Rattle.rt_schema.specs.declared.row.Row.{Row}
use Rattle.rt_schema.specs.declared.value.Value.{Value}
use Rattle.rt_schema.specs.declared.value.Value.TheVariants.{Int, Long, Text, Bool as Truth, Time}

-- the values of the columns in an object, where each column has one
abbrev pub cells_of : List Column → Members → Option (List Value)
cells_of columns ms = map_all (λ column. cell_of column (get_member column.name ms)) columns

abbrev pub row_in : List Column → Data → Option Row
row_in columns (object ms) = option_map (λ vs. record { values = vs }) (cells_of columns ms)
row_in columns null = None
row_in columns (boolean b) = None
row_in columns (number n) = None
row_in columns (string s) = None
row_in columns (array ds) = None

-- the row of a message; none where it isn't decodable
abbrev pub row_of : Schema → List ℕ → Option Row
row_of schema message = if is_utf8 message then option_and_then (row_in schema.columns) (read message) else None

-- a row of these columns: a value of each column's kind
abbrev pub IsRowOf : Schema → Row → Type 0
IsRowOf schema row = map kind_of row.values ≡ map (λ column. column.kind) schema.columns

-- a value that is no text longer than this
abbrev pub IsTextWithin : ℕ → Value → Type 0
IsTextWithin most (Int z) = Unit {0}
IsTextWithin most (Long z) = Unit {0}
IsTextWithin most (Text s) = length s ≤ most
IsTextWithin most (Truth b) = Unit {0}
IsTextWithin most (Time z) = Unit {0}

abbrev pub AreTextsWithin : ℕ → Row → Type 0
AreTextsWithin most row = All (IsTextWithin most) row.values

-- the rows of the decodable messages of a partition at the offsets from start to end - 1, in order
abbrev pub rows_in : Schema → List (List ℕ) → ℕ → ℕ → List Row
rows_in schema messages start end = filter_map (row_of schema) (take (end - start) (drop start messages))

-- the same in a log, which has a list of messages for each partition
abbrev pub rows_between : Schema → List (List (List ℕ)) → ℕ → ℕ → ℕ → List Row
rows_between schema log partition start end = rows_in schema (slice_index_or log partition []) start end
