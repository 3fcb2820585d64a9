use Rattle.std.proofs.Common.{◌≡◌, map, take}
use Rattle.rt_segment.specs.Segment.{cell_in}
use Rattle.rt_segment.proofs.table.row_in.Given as goal

abbrev pub invariant-loop-column : goal.invariant-loop-column
invariant-loop-column l = l.values ≡ map (cell_in l.number) (take l.column-index l.columns)
