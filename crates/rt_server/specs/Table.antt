-- What a server has of each segment, and what it has seen that it is to have.
use Rattle.std.specs.Prelude.{Bool, false, List, Option, Some, None, is_some}
use Rattle.std.specs.declared.cmp.Ordering.{Ordering}
use Rattle.std.specs.Ordering.{ordering_then}
use Rattle.std.specs.BTreeMap.{insert_entry, is_at}
use Rattle.std.specs.Map.{lookup, remove_entry, set_value}
use Rattle.rt_base.specs.declared.numbers.Partition.{Partition}
use Rattle.rt_base.specs.declared.numbers.Sequence.{Sequence}
use Rattle.rt_base.specs.contracts.numbers.PartitionOrd.TheImpl as partition_ord
use Rattle.rt_base.specs.contracts.numbers.SequenceOrd.TheImpl as sequence_ord
use Rattle.rt_segment.specs.Segment.{SealedSegment}
use Rattle.rt_model.specs.declared.ideal_state.Mode.{Mode}
use Rattle.rt_model.specs.declared.setup.Setup.{Setup}
use Rattle.rt_msgs.specs.Numbered.{Numbered}
use Rattle.rt_consumer.specs.declared.consumer.Consumer.{Consumer}
use Rattle.rt_entry.specs.declared.entry.Entry.{Entry}
use Rattle.rt_entry.specs.Entry.{replica_in, wanted_in, file_in}

-- a segment, by its partition and its number there
abbrev pub Segment : Type 0
Segment = Partition × Sequence

-- the segment of a replica
abbrev pub segment_of : Consumer → Segment
segment_of r = (r.partition, r.sequence)

-- by partition, then by number
abbrev pub segment_cmp : Segment → Segment → Ordering
segment_cmp a b = ordering_then ((partition_ord.ghosts).cmp a.0 b.0) ((sequence_ord.ghosts).cmp a.1 b.1)

abbrev pub is_segment : Partition → Sequence → Segment → Bool
is_segment p q = is_at (segment_cmp (p, q))

-- of each segment at most one target and at most one entry, ascending
pub record Segments : Type 0 where
  -- the targets that were seen
  pub targets : List (Segment × Mode)
  -- what there is
  pub entries : List (Segment × Entry)

-- all that a server is
pub record ServerState : Type 0 where
  pub setup : Setup
  -- who it is, its incarnation, and how many requests it has made in that
  pub numbers : Numbered
  pub table : Segments

abbrev pub with_table : ServerState → Segments → ServerState
with_table s t = record s { table = t }

abbrev pub target_of : Segments → Partition → Sequence → Option Mode
target_of t p q = lookup (is_segment p q) t.targets

abbrev pub entry_of : Segments → Partition → Sequence → Option Entry
entry_of t p q = lookup (is_segment p q) t.entries

-- a new entry, in its place
abbrev pub with_entry : Segments → Partition → Sequence → Entry → Segments
with_entry t p q e = record t { entries = insert_entry segment_cmp t.entries (p, q) e }

-- the segment's entry has become this; all others stay
abbrev pub put_back : Segments → Partition → Sequence → Entry → Segments
put_back t p q e = record t { entries = set_value (is_segment p q) t.entries e }

abbrev pub without : Segments → Partition → Sequence → Segments
without t p q = record t { entries = remove_entry (is_segment p q) t.entries }

-- ---- entries

abbrev pub replica_at : Option Entry → Option Consumer
replica_at None = None
replica_at (Some e) = replica_in e

abbrev pub replica_of : Segments → Partition → Sequence → Option Consumer
replica_of t p q = replica_at (entry_of t p q)

abbrev pub wants_at : Option Entry → Bool
wants_at None = false
wants_at (Some e) = is_some (wanted_in e)

abbrev pub file_at : Option Entry → Option SealedSegment
file_at None = None
file_at (Some e) = file_in e
