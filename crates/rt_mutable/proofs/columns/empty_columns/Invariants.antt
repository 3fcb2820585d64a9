use Rattle.std.proofs.Common.{◌≡◌, map, take}
use Rattle.rt_mutable.specs.Columns.{empty_column}
use Rattle.rt_mutable.proofs.columns.empty_columns.Given as goal

abbrev pub invariant-loop-column : goal.invariant-loop-column
invariant-loop-column l = l.empty.items ≡ map (empty_column l.indexed) (take l.column-index l.columns)
