-- The rows of a segment, kept by columns.
use Rattle.std.specs.Prelude.{◌≡◌, ℕ, ◌+◌, ◌-◌, List, [], ◌∷◌, ◌++◌, false, length, map, take, slice_index_or}
use Rattle.rt_base.specs.declared.numbers.Offset.{Offset}
use Rattle.rt_schema.specs.declared.column.Column.{Column}
use Rattle.rt_schema.specs.declared.row.Row.{Row}
use Rattle.rt_schema.specs.declared.value.Value.{Value}
use Rattle.rt_schema.specs.declared.value.Value.TheVariants as value
use Rattle.rt_mutable.specs.Column.{Filled}
use Rattle.rt_mutable.specs.Consuming.{Placed, Consuming, IsConsuming, shape_of}

-- each column has so many values
abbrev pub AreFull : ℕ → List Filled → Type 0
AreFull count [] = Unit {0}
AreFull count (column ∷ columns) = (length column.values ≡ count) × AreFull count columns

-- the row of a number
abbrev pub cell_at : ℕ → Filled → Value
cell_at number column = slice_index_or column.values number (value.Bool false)

abbrev pub row_at : ℕ → List Filled → Row
row_at number columns = record { values = map (cell_at number) columns }

-- the rows from a number on, which have these offsets
abbrev pub rows_from : ℕ → List Filled → List Offset → List Placed
rows_from number columns [] = []
rows_from number columns (offset ∷ offsets) = record { offset = offset; row = row_at number columns } ∷ rows_from (number + 1) columns offsets

abbrev pub segment_of : Offset → Offset → List Offset → List Filled → Consuming
segment_of start end offsets columns = record {
  columns = map (λ column. column.shape) columns;
  start = start;
  rows = rows_from 0 columns offsets;
  end = end;
}

-- columns that hold a value for each offset, as a consuming segment does
pub record HoldRows (start end : Offset) (offsets : List Offset) (columns : List Filled) : Type 0 where
  pub full : AreFull (length offsets) columns
  pub right : IsConsuming (segment_of start end offsets columns)

-- a column of a schema with no row
abbrev pub empty_column : List (List ℕ) → Column → Filled
empty_column indexed column = record { shape = shape_of indexed column; values = [] }

abbrev pub with_value : Filled → Value → Filled
with_value column value = record column { values = column.values ++ value ∷ [] }

-- the columns, each with its value of a row more; where the row ends, the columns stay
abbrev pub with_values : List Filled → List Value → List Filled
with_values [] values = []
with_values (column ∷ columns) [] = column ∷ columns
with_values (column ∷ columns) (value ∷ values) = with_value column value ∷ with_values columns values

-- a column without its last row
abbrev pub without_last : Filled → Filled
without_last column = record column { values = take (length column.values - 1) column.values }

-- a column with its first rows alone
abbrev pub cut : ℕ → Filled → Filled
cut rows column = record column { values = take rows column.values }
