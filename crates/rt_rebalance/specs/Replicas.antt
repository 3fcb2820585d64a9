-- Which instances have which segments, whatever the order and the modes of an ideal state's entries.
use Rattle.std.specs.Prelude.{◌≡◌, Bool, List}
use Rattle.std.specs.declared.cmp.Ordering.{Ordering}
use Rattle.std.specs.BTreeMap.{is_at}
use Rattle.std.specs.List.{list_any}
use Rattle.std.specs.Ordering.{ordering_then}
use Rattle.rt_base.specs.declared.numbers.Partition.{Partition}
use Rattle.rt_base.specs.declared.numbers.Sequence.{Sequence}
use Rattle.rt_base.specs.declared.numbers.Instance.{Instance}
use Rattle.rt_base.specs.contracts.numbers.PartitionOrd.TheImpl as partition_ord
use Rattle.rt_base.specs.contracts.numbers.SequenceOrd.TheImpl as sequence_ord
use Rattle.rt_base.specs.contracts.numbers.InstanceOrd.TheImpl as instance_ord
use Rattle.rt_model.specs.declared.ideal_state.IdealEntry.{IdealEntry}
use Rattle.rt_model.specs.Ideal.{is_of_instance}

-- that an instance has a segment
abbrev pub Replica : Type 0
Replica = Partition × Sequence × Instance

-- by partition, then by sequence, then by instance
abbrev pub replica_cmp : Replica → Replica → Ordering
replica_cmp a b =
    ordering_then (ordering_then ((partition_ord.ghosts).cmp a.0 b.0) ((sequence_ord.ghosts).cmp a.1 b.1)) ((instance_ord.ghosts).cmp a.2 b.2)

abbrev pub is_among : List Replica → Partition → Sequence → Instance → Bool
is_among rs p s i = list_any (is_at (replica_cmp (p, s, i))) rs

-- they are just those of some entries
abbrev pub AreReplicas : List Replica → List IdealEntry → Type 0
AreReplicas rs es = (p : Partition) (s : Sequence) (i : Instance) → is_among rs p s i ≡ list_any (is_of_instance p s i) es
