-- The rows of a table of columns.
use Rattle.std.specs.Prelude.{ℕ, List, map, slice_index_or, false}
use Rattle.std.specs.List.{range_with_len}
use Rattle.rt_schema.specs.declared.row.Row.{Row}
use Rattle.rt_schema.specs.declared.value.Value.{Value}
use Rattle.rt_schema.specs.declared.value.Value.TheVariants.{Bool as Truth}

-- the value of a row, counted from 0
abbrev pub item_at : List Value → ℕ → Value
item_at values row = slice_index_or values row (Truth false)

module _ {C : Type 0} (values : C → List Value) where
  -- the value of a column in the row of a number
  abbrev pub cell_at : ℕ → C → Value
  cell_at number column = item_at (values column) number

  abbrev pub row_at : List C → ℕ → Row
  row_at columns number = record { values = map (cell_at number) columns }

  -- the first rows
  abbrev pub rows_by : List C → ℕ → List Row
  rows_by columns rows = map (row_at columns) (range_with_len 0 rows)
