use Rattle.std.proofs.Common.{◌≡◌, map, take}
use Rattle.rt_mutable.specs.Columns.{cell_at}
use Rattle.rt_mutable.proofs.columns.values_of_row.Given as goal

abbrev pub invariant-loop-column : goal.invariant-loop-column
invariant-loop-column l = l.values.items ≡ map (cell_at l.number) (take l.column-index l.columns)
