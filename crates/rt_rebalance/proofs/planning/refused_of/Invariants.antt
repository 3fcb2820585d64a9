use Rattle.std.proofs.Common.{◌≡◌, length}
use Rattle.rt_rebalance.specs.Refused.{refused_of}
use Rattle.rt_rebalance.proofs.planning.refused_of.Given as goal

abbrev pub invariant-loop-next : goal.invariant-loop-next
invariant-loop-next l = refused_of l.keep l.later l.goals ≡ refused_of l.keep l.now l.goal

abbrev pub decreases-loop-next : goal.decreases-loop-next
decreases-loop-next l = length l.later
