use Rattle.std.proofs.Common.{◌≡◌}
use Rattle.std.specs.List.{list_all}
use Rattle.rt_broker.specs.Asking.{was_asked, assigned_at}
use Rattle.rt_broker.proofs.Replicas.{those_from}
use Rattle.rt_broker.proofs.asked.Asked.are_all_asked.Given as goal

-- those so far were asked
abbrev pub invariant-loop-k : goal.invariant-loop-k
invariant-loop-k l =
    list_all (was_asked l.asked.answers) (those_from l.partition l.self.replication l.self.servers l.k)
    ≡ list_all (was_asked l.asked.answers) (assigned_at l.self l.partition)
