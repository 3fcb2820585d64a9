-- Which servers hold the replicas of a partition.
use Rattle.std.specs.Prelude.{◌≡◌, ℕ, ◌+◌, ◌*◌, ◌%◌, ◌<◌, List, map, length}
use Rattle.std.specs.List.{All, AllPairs, range_with_len}
use Rattle.rt_base.specs.declared.numbers.Partition.{Partition}
use Rattle.rt_base.specs.declared.numbers.Instance.{Instance}

-- the server of replica k
abbrev pub replica_of : Partition → ℕ → ℕ → ℕ → Instance
replica_of p replication servers k = record { 0 = (p.0 * replication + k) % servers }

-- the servers of replicas 0, 1 and so on
abbrev pub replicas_of : Partition → ℕ → ℕ → List Instance
replicas_of p replication servers = map (replica_of p replication servers) (range_with_len 0 replication)

-- so many instances, all different and all below the number of servers
pub record IsPlaced (replication servers : ℕ) (listed : List Instance) : Type 0 where
  pub count : length listed ≡ replication
  pub exist : All (λ i. i.0 < servers) listed
  pub differ : AllPairs (λ i j. i ≡ j → ⊥) listed
