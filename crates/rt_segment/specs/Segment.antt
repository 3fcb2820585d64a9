-- A sealed segment.
use Rattle.std.specs.Prelude.{◌≡◌, ℕ, ◌-◌, ◌<◌, ◌≤◌, ◌^◌, ◌⊎◌, ◌++◌, ◌∷◌, [], Bool, true, false, ◌&&◌, List, length, map, slice_index_or}
use Rattle.std.specs.List.{All, range_with_len}
use Rattle.std.specs.Str.{bytes_eq}
use Rattle.rt_base.specs.declared.numbers.Partition.{Partition}
use Rattle.rt_base.specs.declared.numbers.Sequence.{Sequence}
use Rattle.rt_base.specs.declared.range.Range.{Range}
use Rattle.rt_schema.specs.Schema.{is_among}
use Rattle.rt_schema.specs.declared.column.Column.{Column}
use Rattle.rt_schema.specs.declared.column.Kind.{Kind}
use Rattle.rt_schema.specs.declared.column.Kind.TheVariants as kinds
use Rattle.rt_schema.specs.declared.row.Row.{Row}
use Rattle.rt_schema.specs.declared.value.Value.{Value}
use Rattle.rt_schema.specs.declared.value.Value.TheVariants as value
use Rattle.rt_segment.specs.Column.{SealedColumn, kind_in, values_of, IsColumn, AreShort}

-- a format, and what stands in it: the header and the table of columns
pub record SealedSegment : Type 0 where
  pub format : ℕ
  pub partition : Partition
  pub sequence : Sequence
  pub range : Range
  pub rows : ℕ
  pub columns : List SealedColumn

-- no name comes twice: each is new beside those before it
abbrev pub AreNew : List (List ℕ) → List SealedColumn → Type 0
AreNew before [] = Unit {0}
AreNew before (column ∷ columns) = (is_among column.name before ≡ false) × AreNew (before ++ column.name ∷ []) columns

-- a column that a file of so many rows can have
pub record IsColumnOf (count : ℕ) (column : SealedColumn) : Type 0 where
  pub named : (1 ≤ length column.name) × (length column.name ≤ 128)
  pub short : AreShort column.dictionary
  pub rows : length column.ids ≡ count

-- what can be sealed
pub record IsSealable (segment : SealedSegment) : Type 0 where
  pub format : (segment.format ≡ 1) ⊎ (segment.format ≡ 2)
  pub range : segment.range.start.0 < segment.range.end.0
  pub rows : (segment.rows ≤ segment.range.end.0 - segment.range.start.0) × (segment.rows ≤ 1000000)
  pub few : (1 ≤ length segment.columns) × (length segment.columns ≤ 256)
  pub columns : All (IsColumnOf segment.rows) segment.columns
  pub distinct : AreNew [] segment.columns

-- what a file can hold
pub record IsSealed (segment : SealedSegment) : Type 0 where
  pub sealable : IsSealable segment
  pub columns : All IsColumn segment.columns
  pub partition : segment.partition.0 < 2 ^ 32
  pub sequence : segment.sequence.0 < 2 ^ 32
  pub end : segment.range.end.0 < 2 ^ 64

-- the value of a column in the row of a number
abbrev pub cell_in : ℕ → SealedColumn → Value
cell_in number column = slice_index_or (values_of column) number (value.Bool false)

-- the row of a number
abbrev pub row_in : List SealedColumn → ℕ → Row
row_in columns number = record { values = map (cell_in number) columns }

-- all rows, in order
abbrev pub rows_of : SealedSegment → List Row
rows_of segment = map (row_in segment.columns) (range_with_len 0 segment.rows)

abbrev pub kind_eq : Kind → Kind → Bool
kind_eq kinds.Int kinds.Int = true
kind_eq kinds.Long kinds.Long = true
kind_eq kinds.Text kinds.Text = true
kind_eq kinds.Bool kinds.Bool = true
kind_eq kinds.Time kinds.Time = true
kind_eq a b = false

-- whether a column is that of a schema, by name and kind
abbrev pub is_column : SealedColumn → Column → Bool
is_column stored column = bytes_eq stored.name column.name && kind_eq (kind_in stored.dictionary) column.kind

-- whether columns are a schema's, in order
abbrev pub are_columns : List SealedColumn → List Column → Bool
are_columns [] [] = true
are_columns [] (column ∷ columns) = false
are_columns (stored ∷ others) [] = false
are_columns (stored ∷ others) (column ∷ columns) = is_column stored column && are_columns others columns
