-- The starting contents of the store.
use Rattle.std.specs.Prelude.{ℕ, zero, suc, ◌<◌, List, [], ◌∷◌, ◌++◌, length}
use Rattle.rt_base.specs.declared.numbers.Partition.{Partition}
use Rattle.rt_base.specs.declared.numbers.Instance.{Instance}
use Rattle.rt_base.specs.declared.numbers.Moment.{Moment}
use Rattle.rt_model.specs.declared.ideal_state.IdealEntry.{IdealEntry}
use Rattle.rt_model.specs.declared.node.Key.TheVariants as key
use Rattle.rt_model.specs.declared.node.Node.TheVariants as node
use Rattle.rt_model.specs.declared.node.Seen.{Seen}
use Rattle.rt_model.specs.declared.status.Status.TheVariants.{InProgress}
use Rattle.rt_model.specs.Ideal.{with_consuming}
use Rattle.rt_model.specs.Order.{AreDistinct}

-- what the starting contents are made of: the counts of servers and partitions, the first moment, and
-- for each partition the name of its first segment and the instances to which it is assigned
pub record Starting : Type 0 where
  pub servers : ℕ
  pub partitions : ℕ
  pub moment : Moment
  pub name : Partition → List ℕ
  pub instances : Partition → List Instance

-- each partition is assigned to some instances, all distinct
pub record IsAssigned (s : Starting) : Type 0 where
  pub some : (p : Partition) → p.0 < s.partitions → 0 < length (s.instances p)
  pub distinct : (p : Partition) → p.0 < s.partitions → AreDistinct (s.instances p)

abbrev pub starting_boot : ℕ → Seen
starting_boot i = record { key = key.Boot (record { 0 = i }); version = 0; node = node.Boot }

-- the first segment of a partition, in progress from offset 0
abbrev pub starting_meta : Starting → ℕ → Seen
starting_meta s p =
    record {
      key = key.Meta (record { 0 = p }) (record { 0 = 0 });
      version = 0;
      node = node.Meta (record {
        name = s.name (record { 0 = p });
        start = record { 0 = 0 };
        status = InProgress;
        written = s.moment;
      });
    }

-- every assigned instance of the first segments of the partitions below a count, CONSUMING
abbrev pub starting_entries : Starting → ℕ → List IdealEntry
starting_entries s zero = []
starting_entries s (suc p) =
    with_consuming
    (starting_entries s p)
    (record { 0 = p })
    (record { 0 = 0 })
    (s.instances (record { 0 = p }))

abbrev pub starting_ideal : Starting → Seen
starting_ideal s =
    record {
      key = key.Ideal;
      version = 0;
      node = node.Ideal (record { entries = starting_entries s s.partitions });
    }

-- the boot nodes of the servers below a count
abbrev pub starting_boots : ℕ → List Seen
starting_boots zero = []
starting_boots (suc i) = starting_boots i ++ starting_boot i ∷ []

-- the nodes of the first segments of the partitions below a count
abbrev pub starting_metas : Starting → ℕ → List Seen
starting_metas s zero = []
starting_metas s (suc p) = starting_metas s p ++ starting_meta s p ∷ []

-- the boot nodes, the first segments' nodes, and the ideal state
abbrev pub starting_contents : Starting → List Seen
starting_contents s =
    starting_boots s.servers ++ starting_metas s s.partitions ++ starting_ideal s ∷ []
