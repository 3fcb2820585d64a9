use Rattle.std.proofs.Common.{◌≡◌, ◌==◌, false, map}
use Rattle.std.specs.List.{list_any, range_with_len}
use Rattle.rt_assign.specs.Placement.{replica_of}
use Rattle.rt_commit.proofs.assignment.Assignment.is_replica.Given as goal

-- none of the replicas so far is the instance
abbrev pub invariant-loop-k : goal.invariant-loop-k
invariant-loop-k l =
    list_any (λ j. j.0 == l.instance.0)
    (map (replica_of l.partition l.self.replication l.self.servers) (range_with_len 0 l.k))
    ≡ false
