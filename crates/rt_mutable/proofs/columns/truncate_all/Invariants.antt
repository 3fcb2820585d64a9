use Rattle.std.proofs.Common.{◌≡◌, map, take, drop, ◌++◌}
use Rattle.rt_mutable.specs.Columns.{cut}
use Rattle.rt_mutable.proofs.columns.truncate_all.Given as goal

abbrev pub invariant-loop-column : goal.invariant-loop-column
invariant-loop-column l = l.columns ≡ map (cut l.rows) (take l.column-index l.initial.columns) ++ drop l.column-index l.initial.columns
