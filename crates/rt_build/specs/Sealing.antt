-- What sealing makes of a consuming segment.
use Rattle.std.specs.Prelude.{◌≡◌, ℕ, ◌+◌, ◌<◌, Bool, false, List, [], ◌∷◌, All, Contains, map, take, filter, slice_index_or}
use Rattle.rt_base.specs.declared.numbers.Offset.{Offset}
use Rattle.rt_base.specs.declared.numbers.Partition.{Partition}
use Rattle.rt_base.specs.declared.numbers.Sequence.{Sequence}
use Rattle.rt_schema.specs.declared.column.Kind.{Kind}
use Rattle.rt_schema.specs.declared.value.Value.{Value}
use Rattle.rt_schema.specs.declared.value.Value.TheVariants as value
use Rattle.rt_schema.specs.Schema.{is_among}
use Rattle.rt_mutable.specs.Column.{Shape, Filled}
use Rattle.rt_mutable.specs.Consuming.{Consuming, Placed, is_before, values_at}
use Rattle.rt_segment.specs.declared.dictionary.Dictionary.{Dictionary}
use Rattle.rt_segment.specs.Column.{SealedColumn, kind_in, values_in, count_in, values_of}
use Rattle.rt_segment.specs.Segment.{SealedSegment, rows_of}

-- the sorted values of some rows: what they stand for are these values
pub record StandFor (rows_kind : Kind) (rows : List Value) (dictionary : Dictionary) (ids : List ℕ) : Type 0 where
  pub kind : kind_in dictionary ≡ rows_kind
  pub values : map (λ id. slice_index_or (values_in dictionary) id (value.Bool false)) ids ≡ rows
  pub known : All (λ id. id < count_in dictionary) ids
  pub used : (id : ℕ) → id < count_in dictionary → Contains ids id

-- the first rows of a column, sealed
pub record IsColumnSealed (rows : ℕ) (indexed : Bool) (column : Filled) (sealed : SealedColumn) : Type 0 where
  pub name : sealed.name ≡ column.shape.name
  pub kind : kind_in sealed.dictionary ≡ column.shape.kind
  pub flag : sealed.indexed ≡ indexed
  pub values : values_of sealed ≡ take rows column.values

-- the first rows of each column; the columns of some names are indexed
abbrev pub AreColumnsSealed : ℕ → List (List ℕ) → List Filled → List SealedColumn → Type 0
AreColumnsSealed rows indexed [] [] = Unit {0}
AreColumnsSealed rows indexed [] (sealed ∷ others) = ⊥
AreColumnsSealed rows indexed (column ∷ columns) [] = ⊥
AreColumnsSealed rows indexed (column ∷ columns) (sealed ∷ others) =
    IsColumnSealed rows (is_among column.shape.name indexed) column sealed × AreColumnsSealed rows indexed columns others

-- the columns of a segment from a place on, with their values
abbrev pub filled_from : ℕ → List Placed → List Shape → List Filled
filled_from place rows [] = []
filled_from place rows (shape ∷ shapes) = record { shape = shape; values = values_at place rows } ∷ filled_from (place + 1) rows shapes

abbrev pub filled_of : Consuming → List Filled
filled_of segment = filled_from 0 segment.rows segment.columns

-- a sealed column by its name, its kind and its flag
abbrev pub shape_in : SealedColumn → Shape
shape_in column = record { name = column.name; kind = kind_in column.dictionary; indexed = column.indexed }

-- a column that is indexed exactly where it has one of these names
abbrev pub marked : List (List ℕ) → Shape → Shape
marked indexed shape = record shape { indexed = is_among shape.name indexed }

-- the rows below an end, sealed in a format for a partition and a sequence
pub record IsSealOf (version : ℕ) (place : Partition) (number : Sequence) (end : Offset) (indexed : List (List ℕ)) (segment : Consuming) (sealed : SealedSegment) : Type 0 where
  pub format : sealed.format ≡ version
  pub partition : sealed.partition ≡ place
  pub sequence : sealed.sequence ≡ number
  pub range : sealed.range ≡ record { start = segment.start; end = end }
  pub columns : map shape_in sealed.columns ≡ map (marked indexed) segment.columns
  pub rows : rows_of sealed ≡ map (λ placed. placed.row) (filter (is_before end) segment.rows)
