use Rattle.std.proofs.Common.{◌≡◌, length}
use Rattle.rt_rebalance.specs.Segments.{same_instances}
use Rattle.rt_rebalance.proofs.segments.same_instances.Given as goal

abbrev pub invariant-loop-rest : goal.invariant-loop-rest
invariant-loop-rest l = same_instances l.rest l.others ≡ same_instances l.now l.goal

abbrev pub decreases-loop-rest : goal.decreases-loop-rest
decreases-loop-rest l = length l.rest
