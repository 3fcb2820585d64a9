use Rattle.std.proofs.Common.{◌≡◌, ◌++◌, map, take}
use Rattle.rt_views.proofs.naming.name_ranges.Given as goal

abbrev pub invariant-loop-range : goal.invariant-loop-range
invariant-loop-range l = l.named ≡ l.initial.named ++ map (λ r. (l.fn.partition, r)) (take l.range-index l.ranges)
