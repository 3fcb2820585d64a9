-- The rows of a text that is pushed, and the columns that its file has.
use Rattle.std.specs.Prelude.{ℕ, Bool, true, ◌&&◌, List, [], ◌∷◌, length, take, filter, nat_le, Option, Some, None, is_some, option_and_then, unwrap_or, if◌then◌else◌}
use Rattle.std.specs.List.{list_any, list_all}
use Rattle.serde_json.specs.Data.{Data, null, boolean, number, string, array, object}
use Rattle.serde_json.specs.Find.{get}
use Rattle.serde_json.specs.Read.{read}
use Rattle.rt_base.specs.declared.limits.TheConstants.{LONGEST_MESSAGE}
use Rattle.rt_schema.specs.Json.{items_of, map_all}
use Rattle.rt_schema.specs.Row.{row_in}
use Rattle.rt_schema.specs.declared.column.Column.{Column}
use Rattle.rt_schema.specs.declared.row.Row.{Row}
use Rattle.rt_schema.specs.declared.schema.Schema.{Schema}
use Rattle.rt_schema.specs.declared.value.Value.{Value}
use Rattle.rt_schema.specs.declared.value.Value.TheVariants.{Int, Long, Text, Bool as Truth, Time}

-- ---- the objects of a text

abbrev pub array_in : Data → Option (List Data)
array_in null = None
array_in (boolean b) = None
array_in (number n) = None
array_in (string s) = None
array_in (array ds) = Some (items_of ds)
array_in (object ms) = None

-- at least one, and no more than a push takes
abbrev pub are_few : ℕ → Bool
are_few count = nat_le 1 count && nat_le count 10000

abbrev pub if_few : List Data → Option (List Data)
if_few items = if are_few (length items) then Some items else None

abbrev pub array_of : Option Data → Option (List Data)
array_of json = option_and_then if_few (option_and_then array_in json)

abbrev pub items_pushed : List ℕ → Option (List Data)
items_pushed text = array_of (read text)

-- ---- their rows

-- a value that is no text above the longest
abbrev pub is_short : Value → Bool
is_short (Int z) = true
is_short (Long z) = true
is_short (Text s) = nat_le (length s) LONGEST_MESSAGE
is_short (Truth b) = true
is_short (Time z) = true

abbrev pub if_short : Row → Option Row
if_short row = if list_all is_short row.values then Some row else None

-- the row of an object that is decodable, where no text of it is too long
abbrev pub row_pushed : List Column → Data → Option Row
row_pushed columns item = option_and_then if_short (row_in columns item)

abbrev pub rows_in : List Column → List Data → Option (List Row)
rows_in columns items = map_all (row_pushed columns) items

-- the rows of a text that can be pushed
abbrev pub rows_pushed : Schema → List ℕ → Option (List Row)
rows_pushed schema text = option_and_then (rows_in schema.columns) (items_pushed text)

-- ---- the columns of the file

-- whether some object has the column's key, were it with null
abbrev pub is_named : List Data → Column → Bool
is_named items column = list_any (λ item. is_some (get column.name item)) items

abbrev pub or_first : List Column → List Column → List Column
or_first columns [] = take 1 columns
or_first columns (c ∷ cs) = c ∷ cs

-- the columns that some object has as a key, or the first column where there is none
abbrev pub columns_kept : List Column → List Data → List Column
columns_kept columns items = or_first columns (filter (is_named items) columns)

abbrev pub columns_pushed : Schema → List ℕ → List Column
columns_pushed schema text = columns_kept schema.columns (unwrap_or (items_pushed text) [])
