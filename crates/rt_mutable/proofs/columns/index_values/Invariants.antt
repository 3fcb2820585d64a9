use Rattle.std.proofs.Common.{◌≡◌, take}
use Rattle.rt_mutable.specs.Columns.{with_values}
use Rattle.rt_mutable.proofs.columns.index_values.Given as goal

abbrev pub invariant-loop-place : goal.invariant-loop-place
invariant-loop-place l = l.columns ≡ with_values l.initial.columns (take l.place l.values)
