use Rattle.std.proofs.Common.{◌≡◌, map, take, drop, ◌++◌}
use Rattle.rt_mutable.specs.Columns.{without_last}
use Rattle.rt_mutable.proofs.columns.take_back_all.Given as goal

abbrev pub invariant-loop-column : goal.invariant-loop-column
invariant-loop-column l = l.columns ≡ map without_last (take l.column-index l.initial.columns) ++ drop l.column-index l.initial.columns
