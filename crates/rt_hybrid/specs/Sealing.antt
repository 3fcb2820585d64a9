-- A consuming segment that has taken the rows of a push.
use Rattle.std.specs.Prelude.{ℕ, ◌+◌, List, [], ◌∷◌, length, map}
use Rattle.rt_schema.specs.declared.column.Column.{Column}
use Rattle.rt_schema.specs.declared.row.Row.{Row}
use Rattle.rt_mutable.specs.Consuming.{Consuming, Placed, shape_of}

abbrev pub placed_from : ℕ → List Row → List Placed
placed_from offset [] = []
placed_from offset (row ∷ rows) = record { offset = record { 0 = offset }; row = row } ∷ placed_from (offset + 1) rows

abbrev pub consuming_of : List Column → List Row → Consuming
consuming_of columns rows = record {
  columns = map (shape_of []) columns;
  start = record { 0 = 0 };
  rows = placed_from 0 rows;
  end = record { 0 = length rows };
}
