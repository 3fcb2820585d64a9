use Rattle.std.proofs.Common.{◌≡◌, ◌++◌, map, take}
use Rattle.rt_broker.proofs.answering.name_ranges.Given as goal

abbrev pub invariant-loop-range : goal.invariant-loop-range
invariant-loop-range l = l.named ≡ l.initial.named ++ map (λ r. (l.partition, r)) (take l.range-index l.ranges)
