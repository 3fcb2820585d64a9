-- What a controller keeps of its setup: the table's name, and where the replicas of partitions lie.
use Rattle.std.specs.Prelude.{ℕ, ◌≤◌, ◌==◌, Bool, List}
use Rattle.std.specs.List.{list_any}
use Rattle.rt_base.specs.declared.numbers.Instance.{Instance}
use Rattle.rt_base.specs.declared.numbers.Partition.{Partition}
use Rattle.rt_model.specs.declared.setup.Setup.{Setup}
use Rattle.rt_names.specs.Table.{IsTableName}
use Rattle.rt_assign.specs.Placement.{replicas_of}

pub record Assigned : Type 0 where
  pub table : List ℕ
  pub replication : ℕ
  pub servers : ℕ

-- of a cluster within the limits
pub record IsAssigned (a : Assigned) : Type 0 where
  pub named : IsTableName a.table
  pub some : 1 ≤ a.replication
  pub enough : a.replication ≤ a.servers

abbrev pub assigned_by : Setup → Assigned
assigned_by setup = record { table = setup.table.name; replication = setup.table.replication; servers = setup.servers }

-- the instances that are assigned to a partition
abbrev pub replicas_in : Assigned → Partition → List Instance
replicas_in a p = replicas_of p a.replication a.servers

abbrev pub is_replica : Assigned → Partition → Instance → Bool
is_replica a p i = list_any (λ j. j.0 == i.0) (replicas_in a p)
