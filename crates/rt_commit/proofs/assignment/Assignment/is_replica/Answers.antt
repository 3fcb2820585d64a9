use Rattle.std.proofs.Common.{sym, ◌∙◌}
use Rattle.rt_commit.proofs.Replicas.{replica_not_found}
use Rattle.rt_commit.proofs.assignment.Assignment.is_replica.Goals as goal

pub loop-k-preserved : goal.loop-k-preserved
loop-k-preserved c =
    replica_not_found _ _ _ _ _ c.loop-k.invariant (sym c.is_replica_at.ensures ∙ c.if-is_replica_at.false)
