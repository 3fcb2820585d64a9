use Rattle.std.proofs.Common.{◌≡◌, map}
use Rattle.std.specs.List.{range_with_len}
use Rattle.rt_assign.specs.Placement.{replica_of}
use Rattle.rt_assign.proofs.placement.replicas.Given as goal

abbrev pub invariant-loop-k : goal.invariant-loop-k
invariant-loop-k l = l.listed ≡ map (replica_of l.partition l.replication l.servers) (range_with_len 0 l.k)
