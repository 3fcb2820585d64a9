use Rattle.std.proofs.Common.{◌≡◌}
use Rattle.rt_broker.specs.Asking.{is_one_of, assigned_at}
use Rattle.rt_broker.proofs.Replicas.{those_from}
use Rattle.rt_broker.proofs.asked.Asked.is_assigned.Given as goal

-- those so far are other servers
abbrev pub invariant-loop-k : goal.invariant-loop-k
invariant-loop-k l =
    is_one_of (those_from l.partition l.self.replication l.self.servers l.k) l.from ≡ is_one_of (assigned_at l.self l.partition) l.from
