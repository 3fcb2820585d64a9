-- What becomes of a table by a segment's target and metadata.
use Rattle.std.specs.Prelude.{Bool, Option, Some, None, Result, Ok, Err}
use Rattle.rt_base.specs.declared.numbers.Moment.{Moment}
use Rattle.rt_base.specs.declared.numbers.Offset.{Offset}
use Rattle.rt_base.specs.declared.numbers.Partition.{Partition}
use Rattle.rt_base.specs.declared.numbers.Sequence.{Sequence}
use Rattle.rt_model.specs.declared.ideal_state.Mode.{Mode}
use Rattle.rt_model.specs.declared.ideal_state.Mode.TheVariants.{Consuming, Online, Offline}
use Rattle.rt_model.specs.declared.node.Seen.{Seen}
use Rattle.rt_model.specs.declared.replica_state.ReplicaState.{ReplicaState}
use Rattle.rt_model.specs.declared.replica_state.ReplicaState.TheVariants as state
use Rattle.rt_model.specs.declared.seg_meta.SeenMeta.{SeenMeta}
use Rattle.rt_model.specs.declared.setup.Setup.{Setup}
use Rattle.rt_model.specs.declared.status.Status.{Status}
use Rattle.rt_model.specs.declared.status.Status.TheVariants.{InProgress, Done, Abandoned}
use Rattle.rt_store.specs.declared.refused.StoreRefused.{StoreRefused}
use Rattle.rt_consumer.specs.Consumer.{started_of}
use Rattle.rt_entry.specs.declared.entry.Entry.{Entry}
use Rattle.rt_entry.specs.declared.entry.Entry.TheVariants.{Replica}
use Rattle.rt_entry.specs.declared.refused.ServerRefused.{ServerRefused}
use Rattle.rt_server.specs.Table.{Segments, target_of, entry_of, with_entry, put_back, without}
use Rattle.rt_entry.specs.Entry.{wanting, state_in}
use Rattle.rt_entry.specs.Transition.{is_due, told, metadata_in}

-- ---- when it is due

abbrev pub transit_due : Segments → Partition → Sequence → Bool
transit_due t p q = is_due (target_of t p q) (entry_of t p q)

-- ---- what it does: the state that it answers, and the table after it

abbrev pub Moved : Type 0
Moved = ReplicaState × Segments

abbrev pub removed : Segments → Partition → Sequence → Moved
removed t p q = (state.Discarded, without t p q)

-- in progress: a replica is started where there is none; else nothing changes
abbrev pub opened : Setup → Segments → Partition → Sequence → Moment → SeenMeta → Option Entry → Moved
opened setup t p q now seen None =
    (state.InitialConsuming, with_entry t p q (Replica (started_of setup p q seen.meta now)))
opened setup t p q now seen (Some e) = (state_in e, t)

abbrev pub committed : Segments → Partition → Sequence → SeenMeta → Offset → Option Entry → Moved
committed t p q done end None = (state.Discarded, with_entry t p q (wanting done))
committed t p q done end (Some e) = (state_in (told e done end), put_back t p q (told e done end))

abbrev pub moved_by : Setup → Segments → Partition → Sequence → Moment → SeenMeta → Status → Moved
moved_by setup t p q now seen InProgress = opened setup t p q now seen (entry_of t p q)
moved_by setup t p q now seen (Done commit) = committed t p q seen commit.end (entry_of t p q)
moved_by setup t p q now seen Abandoned = removed t p q

-- without a node the entry goes
abbrev pub moved_to : Setup → Segments → Partition → Sequence → Moment → Option SeenMeta → Moved
moved_to setup t p q now None = removed t p q
moved_to setup t p q now (Some seen) = moved_by setup t p q now seen seen.meta.status

-- by the target and by the metadata, where there is a node
abbrev pub transition : Setup → Segments → Partition → Sequence → Moment → Mode → Option SeenMeta → Moved
transition setup t p q now Offline seen = removed t p q
transition setup t p q now Consuming seen = moved_to setup t p q now seen
transition setup t p q now Online seen = moved_to setup t p q now seen

-- ---- what the store told

abbrev pub moved_if : Setup → Segments → Partition → Sequence → Moment → Mode → Result (Option SeenMeta) ServerRefused → Result Moved ServerRefused
moved_if setup t p q now mode (Ok seen) = Ok (transition setup t p q now mode seen)
moved_if setup t p q now mode (Err e) = Err e

-- the transition of a segment with this target, by the answer of a read of its metadata
abbrev pub transited : Setup → Segments → Partition → Sequence → Moment → Mode → Result Seen StoreRefused → Result Moved ServerRefused
transited setup t p q now mode answer = moved_if setup t p q now mode (metadata_in answer)
