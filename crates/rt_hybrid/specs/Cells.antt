-- The cells of the columns in an object.
use Rattle.std.specs.Prelude.{ℤ, List, Option, unwrap_or}
use Rattle.serde_json.specs.Data.{Data}
use Rattle.serde_json.specs.Find.{get}
use Rattle.rt_schema.specs.Json.{map_all}
use Rattle.rt_schema.specs.Value.{cell_of, missing_of}
use Rattle.rt_schema.specs.declared.column.Column.{Column}
use Rattle.rt_schema.specs.declared.value.Value.{Value}
use Rattle.rt_model.specs.Values.{number_of}

-- what a column gets from an object, where that is of its kind
abbrev pub cell_at : Data → Column → Option Value
cell_at item column = cell_of column (get column.name item)

abbrev pub cells_in : Data → List Column → Option (List Value)
cells_in item columns = map_all (cell_at item) columns

-- the value of a column in the row of an object; the missing one where there is no row
abbrev pub value_in : Data → Column → Value
value_in item column = unwrap_or (cell_at item column) (missing_of column.kind column.role)

-- the time that an object has in a time column
abbrev pub time_in : Column → Data → ℤ
time_in column item = number_of (value_in item column)
