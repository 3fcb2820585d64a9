-- A consuming segment: its columns, and its rows with the offsets of their messages.
use Rattle.std.specs.Prelude.{◌≡◌, ℕ, ◌+◌, ◌<◌, ◌≤◌, Bool, true, false, List, [], ◌∷◌, ◌++◌, length, map, Option, Some, None, All, AllPairs, slice_index_or, nat_lt}
use Rattle.rt_base.specs.declared.numbers.Offset.{Offset}
use Rattle.rt_schema.specs.declared.column.Column.{Column}
use Rattle.rt_schema.specs.declared.row.Row.{Row}
use Rattle.rt_schema.specs.declared.value.Value.{Value}
use Rattle.rt_schema.specs.declared.value.Value.TheVariants.{Int, Long, Text, Bool as Truth, Time}
use Rattle.rt_schema.specs.Schema.{are_distinct, is_among}
use Rattle.rt_schema.specs.Value.{kind_of}
use Rattle.rt_mutable.specs.Column.{Shape}

-- a row with its message's offset
pub record Placed : Type 0 where
  pub offset : Offset
  pub row : Row

-- the rows of the decodable messages from the start up to the end, in the order of their offsets
pub record Consuming : Type 0 where
  pub columns : List Shape
  pub start : Offset
  pub rows : List Placed
  pub end : Offset

-- the columns of a schema, those of some names indexed
abbrev pub shape_of : List (List ℕ) → Column → Shape
shape_of indexed column = record { name = column.name; kind = column.kind; indexed = is_among column.name indexed }

-- a segment that holds no row yet
abbrev pub empty_segment : List Column → Offset → List (List ℕ) → Consuming
empty_segment columns start indexed = record { columns = map (shape_of indexed) columns; start = start; rows = []; end = start }

abbrev pub next : Offset → Offset
next offset = record { 0 = offset.0 + 1 }

-- the segment after the message at its end, which has this row or is undecodable
abbrev pub after_message : Consuming → Option Row → Consuming
after_message segment None = record segment { end = next segment.end }
after_message segment (Some row) = record segment {
  rows = segment.rows ++ record { offset = segment.end; row = row } ∷ [];
  end = next segment.end;
}

-- the value of a column, by its place, in each row
abbrev pub value_at : ℕ → Row → Value
value_at place row = slice_index_or row.values place (Truth false)

abbrev pub values_at : ℕ → List Placed → List Value
values_at place rows = map (λ placed. value_at place placed.row) rows

abbrev pub rows_of : Consuming → List Row
rows_of segment = map (λ placed. placed.row) segment.rows

-- whether a row is of an earlier offset
abbrev pub is_before : Offset → Placed → Bool
is_before offset placed = nat_lt placed.offset.0 offset.0

-- a value of the kind of each column
abbrev pub FitsColumns : List Shape → Row → Type 0
FitsColumns columns row = map kind_of row.values ≡ map (λ shape. shape.kind) columns

-- a text has at most 65,536 bytes
abbrev pub IsShort : Value → Type 0
IsShort (Int number) = Unit {0}
IsShort (Long number) = Unit {0}
IsShort (Text text) = length text ≤ 65536
IsShort (Truth truth) = Unit {0}
IsShort (Time moment) = Unit {0}

abbrev pub IsNamed : Shape → Type 0
IsNamed shape = (1 ≤ length shape.name) × (length shape.name ≤ 128)

abbrev pub IsBetween : Offset → Offset → Placed → Type 0
IsBetween start end placed = (start.0 ≤ placed.offset.0) × (placed.offset.0 < end.0)

-- what is true of every consuming segment
pub record IsConsuming (segment : Consuming) : Type 0 where
  pub few : (1 ≤ length segment.columns) × (length segment.columns ≤ 256)
  pub named : All IsNamed segment.columns
  pub distinct : are_distinct (map (λ shape. shape.name) segment.columns) ≡ true
  pub limited : length segment.rows ≤ 1000000
  pub fit : All (λ placed. FitsColumns segment.columns placed.row) segment.rows
  pub short : All (λ placed. All IsShort placed.row.values) segment.rows
  pub between : All (IsBetween segment.start segment.end) segment.rows
  pub ascending : AllPairs (λ a b. a.offset.0 < b.offset.0) segment.rows
  pub ordered : segment.start.0 ≤ segment.end.0
