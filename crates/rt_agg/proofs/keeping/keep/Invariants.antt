use Rattle.std.proofs.Common.{◌≡◌, ◌++◌, drop}
use Rattle.rt_agg.specs.Picking.{kept}
use Rattle.rt_agg.proofs.keeping.keep.Given as goal

abbrev pub invariant-loop-i : goal.invariant-loop-i
invariant-loop-i g l = l.items ++ kept (drop l.i l.marks) (drop l.i l.list) ≡ kept l.marks l.list
