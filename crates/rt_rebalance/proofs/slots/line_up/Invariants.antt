use Rattle.std.proofs.Common.{◌≡◌, ◌+◌, ◌<◌, ◌++◌, length}
use Rattle.rt_rebalance.specs.Planned.{lined_up}
use Rattle.rt_rebalance.proofs.slots.line_up.Given as goal

abbrev pub invariant-loop-next : goal.invariant-loop-next
invariant-loop-next l = record {
  whole : l.slots.items ++ lined_up l.pace l.line.left l.line.come l.line.now.now l.line.goal.now ≡ l.initial.slots.items ++ lined_up l.pace 0 0 l.now l.goal;
  left : l.line.left + length l.line.now.now < 9223372036854775808;
  come : l.line.come + length l.line.goal.now < 9223372036854775808;
}

abbrev pub decreases-loop-next : goal.decreases-loop-next
decreases-loop-next l = length l.line.now.now + length l.line.goal.now
