use Rattle.std.proofs.Common.{◌≡◌, ◌++◌, length}
use Rattle.rt_rebalance.specs.Planned.{slots_of}
use Rattle.rt_rebalance.proofs.slots.slots_of.Given as goal

-- what stands, and what is left, are the whole
abbrev pub invariant-loop-next : goal.invariant-loop-next
invariant-loop-next l = l.slots.items ++ slots_of l.keep l.later l.goals ≡ slots_of l.keep l.now l.goal

abbrev pub decreases-loop-next : goal.decreases-loop-next
decreases-loop-next l = length l.later
