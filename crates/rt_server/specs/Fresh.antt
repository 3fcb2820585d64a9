-- A fresh server: it has seen the first ideal state, and has a started replica of each first segment that it holds.
use Rattle.std.specs.Prelude.{◌≡◌, ℕ, zero, suc, ◌==◌, Bool, [], if◌then◌else◌, Some, None}
use Rattle.std.specs.BTreeMap.{insert_entry}
use Rattle.std.specs.List.{list_any}
use Rattle.rt_base.specs.declared.numbers.Instance.{Instance}
use Rattle.rt_base.specs.declared.numbers.Partition.{Partition}
use Rattle.rt_base.specs.declared.numbers.Sequence.{Sequence}
use Rattle.rt_model.specs.declared.ideal_state.Mode.{Mode}
use Rattle.rt_model.specs.declared.ideal_state.Mode.TheVariants.{Consuming}
use Rattle.rt_model.specs.declared.seg_meta.SegMeta.{SegMeta}
use Rattle.rt_model.specs.declared.setup.Setup.{Setup}
use Rattle.rt_model.specs.Starting.{starting_entries}
use Rattle.rt_meta.specs.Lives.{first_of}
use Rattle.rt_assign.specs.Placement.{replicas_of}
use Rattle.rt_store.specs.Contents.{starting_of}
use Rattle.rt_consumer.specs.declared.consumer.Consumer.{Consumer}
use Rattle.rt_consumer.specs.Consumer.{started_of}
use Rattle.rt_entry.specs.declared.entry.Entry.TheVariants.{Replica}
use Rattle.rt_server.specs.Calls.{targets_of}
use Rattle.rt_server.specs.Table.{Segments, ServerState, entry_of, segment_cmp, target_of}

-- whether an instance holds a replica of a partition
abbrev pub is_assigned : Setup → Partition → Instance → Bool
is_assigned setup p i = list_any (λ j. j.0 == i.0) (replicas_of p setup.table.replication setup.servers)

abbrev pub first_sequence : Sequence
first_sequence = record { 0 = 0 }

-- the metadata of a partition's first segment
abbrev pub first_meta : Setup → Partition → SegMeta
first_meta setup p = first_of setup.table.name p first_sequence (record { 0 = 0 }) setup.start

-- its started replica
abbrev pub first_replica : Setup → Partition → Consumer
first_replica setup p = started_of setup p first_sequence (first_meta setup p) setup.start

abbrev pub put_first : Partition → Consumer → Segments → Segments
put_first p r t =
    record {
      targets = insert_entry segment_cmp t.targets (p, first_sequence) Consuming;
      entries = insert_entry segment_cmp t.entries (p, first_sequence) (Replica r);
    }

abbrev pub with_first : Setup → Partition → Segments → Segments
with_first setup p t = put_first p (first_replica setup p) t

-- where the instance holds one
abbrev pub with_first_if : Setup → Instance → Partition → Segments → Segments
with_first_if setup i p t = if is_assigned setup p i then with_first setup p t else t

-- the first segments of the partitions below a count
abbrev pub first_segments : Setup → Instance → ℕ → Segments
first_segments setup i zero = record { targets = []; entries = [] }
first_segments setup i (suc p) = with_first_if setup i (record { 0 = p }) (first_segments setup i p)

abbrev pub fresh : Setup → Instance → ServerState
fresh setup i =
    record {
      setup = setup;
      numbers = record { instance = i; incarnation = 0; made = 0 };
      table = first_segments setup i setup.partitions;
    }

-- ---- what it has, in other words

-- the targets are those of the starting ideal state; each asks CONSUMING of a first segment, of which there is a started
-- replica, and there is nothing else
pub record IsFreshOf (setup : Setup) (i : Instance) (s : ServerState) : Type 0 where
  pub of_setup : s.setup ≡ setup
  pub numbers : s.numbers ≡ record { instance = i; incarnation = 0; made = 0 }
  pub targets : s.table.targets ≡ targets_of i (starting_entries (starting_of setup) setup.partitions)
  pub held :
      (p : Partition) (q : Sequence) (mode : Mode) → target_of s.table p q ≡ Some mode
      → (mode ≡ Consuming) × (q ≡ first_sequence) × (entry_of s.table p q ≡ Some (Replica (first_replica setup p)))
  pub others : (p : Partition) (q : Sequence) → target_of s.table p q ≡ None → entry_of s.table p q ≡ None
