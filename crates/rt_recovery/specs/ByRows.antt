-- Worlds in which segments end by the row limit alone: what reports has exactly as many rows as a segment has, the first of them that does is
-- told to commit, and all others wait for it at the same offset.
use Rattle.std.specs.Prelude.{◌≡◌, ◌-◌, ◌<◌, ◌≤◌, ℕ, true, false, length, Some, slice_get}
use Rattle.rt_base.specs.declared.numbers.Offset.{Offset}
use Rattle.rt_consumer.specs.declared.consumer.Consumer.{Consumer}
use Rattle.rt_consumer.specs.declared.phase.Phase.{Phase}
use Rattle.rt_consumer.specs.declared.phase.Phase.TheVariants as phase
use Rattle.rt_consumer.specs.declared.stage.Stage.{Stage}
use Rattle.rt_consumer.specs.declared.stage.Stage.TheVariants.{Building, CatchingUp, ConsumingToOnline, Ending, Holding, InitialConsuming, Retaining, Starting, Uploading}
use Rattle.rt_consumer.specs.declared.unsealed.Unsealed.{Unsealed}
use Rattle.rt_entry.specs.declared.entry.Entry.TheVariants.{Replica}
use Rattle.rt_lists.specs.Members.{Has}
use Rattle.rt_model.specs.Completion.{is_late, Completion}
use Rattle.rt_model.specs.Entries.{entries_of}
use Rattle.rt_model.specs.History.{value_of}
use Rattle.rt_model.specs.Ideal.{mode_of}
use Rattle.rt_model.specs.declared.ideal_state.Mode.TheVariants.{Consuming}
use Rattle.rt_model.specs.declared.node.Key.TheVariants as key
use Rattle.rt_model.specs.declared.node.Node.TheVariants as node
use Rattle.rt_model.specs.declared.node.Seen.{Seen}
use Rattle.rt_model.specs.declared.request.Reason.{Reason}
use Rattle.rt_model.specs.declared.request.Reason.TheVariants.{RowLimit}
use Rattle.rt_model.specs.declared.seg_meta.SegMeta.{SegMeta}
use Rattle.rt_model.specs.declared.status.Status.TheVariants.{InProgress}
use Rattle.rt_nodes.specs.declared.server_node.ServerNode.{ServerNode}
use Rattle.rt_schema.specs.Row.{rows_in}
use Rattle.rt_server.specs.Table.{Segment}
use Rattle.rt_state.specs.declared.state.State.{State}
use Rattle.rt_stream.specs.Log.{messages_of}
use Rattle.rt_calm.specs.Again.{asked_machines, awaits, machine_of}

-- the rows of a replica's messages up to an offset
abbrev pub rows_to : State → Consumer → ℕ → ℕ
rows_to w r x = length (rows_in w.setup.schema (messages_of w.log r.partition) r.start.0 x)

-- it has as many rows as a segment has, since its last message
pub record IsFull (w : State) (r : Consumer) (end : Offset) : Type 0 where
  pub full : w.setup.table.rows ≤ rows_to w r end.0
  pub short : rows_to w r (end.0 - 1) < w.setup.table.rows

-- it reports the row limit
pub record Reports (w : State) (r : Consumer) (end : Offset) (reason : Reason) : Type 0 where
  pub by_rows : reason ≡ RowLimit
  pub full : IsFull w r end

-- the segment's node is in progress
pub record IsOpen (w : State) (s : Segment) : Type 0 where
  pub write : Seen
  pub there : value_of w.store.writes (key.Meta s.0 s.1) ≡ Some write
  pub meta : SegMeta
  pub is : write.node ≡ node.Meta meta
  pub in_progress : meta.status ≡ InProgress

-- an instance is to consume a segment
abbrev pub IsToConsume : State → ℕ → Segment → Type 0
IsToConsume w i s = mode_of (entries_of w.store.writes) s.0 s.1 (record { 0 = i }) ≡ Some Consuming

-- a committer for which the segment's machine waits, and which is to consume the segment in progress
pub record CommitsFor (w : State) (i : ℕ) (s : Segment) (r : Consumer) (o : Unsealed) (reason : Reason) : Type 0 where
  pub reports : Reports w r o.rows.end reason
  pub awaited : awaits (machine_of (asked_machines w) s.0 s.1) i o.stage o.rows.end ≡ true
  pub opened : IsOpen w s
  pub consumes : IsToConsume w i s

-- nobody catches up; who consumes began at this moment, and is to consume the segment while that is in progress, as is who reports
abbrev pub StandsByRows : State → ℕ → Segment → Consumer → Unsealed → Stage → Type 0
StandsByRows w i s r o InitialConsuming =
    (r.started ≡ w.moment) × (rows_to w r o.rows.end.0 < w.setup.table.rows) × (IsOpen w s → IsToConsume w i s)
StandsByRows w i s r o (CatchingUp target reason) = ⊥
StandsByRows w i s r o (Holding reason) = Reports w r o.rows.end reason × (IsOpen w s → IsToConsume w i s)
StandsByRows w i s r o (Building reason) = CommitsFor w i s r o reason
StandsByRows w i s r o (Starting reason built) = CommitsFor w i s r o reason
StandsByRows w i s r o (Uploading reason built) = CommitsFor w i s r o reason
StandsByRows w i s r o (Ending reason built path) = CommitsFor w i s r o reason
StandsByRows w i s r o (ConsumingToOnline end done) = Unit {0}
StandsByRows w i s r o (Retaining done) = Unit {0}

-- no replica stopped
abbrev pub IsByRowsAt : State → ℕ → Segment → Consumer → Phase → Type 0
IsByRowsAt w i s r (phase.Unsealed o) = StandsByRows w i s r o o.stage
IsByRowsAt w i s r (phase.Retained kept) = Unit {0}
IsByRowsAt w i s r (phase.Committed kept) = Unit {0}
IsByRowsAt w i s r (phase.Discarded d) = d.stopped ≡ false

-- the committer for which a machine waits is there, and no deadline has passed
pub record IsMachineByRows (w : State) (s : Segment) (m : Completion) : Type 0 where
  pub early : is_late m w.moment ≡ false
  pub node : ServerNode
  pub there : slice_get w.servers m.winner.0 ≡ Some node
  pub replica : Consumer
  pub has : Has node.server.table.entries (s, Replica replica)
  pub rows : Unsealed
  pub unsealed : replica.phase ≡ phase.Unsealed rows
  pub awaited : awaits (Some m) m.winner.0 rows.stage rows.rows.end ≡ true

pub record IsByRows (w : State) : Type 0 where
  pub replicas : (i : ℕ) (n : ServerNode) → slice_get w.servers i ≡ Some n → (s : Segment) (r : Consumer)
      → Has n.server.table.entries (s, Replica r) → IsByRowsAt w i s r r.phase
  pub machines : (s : Segment) (m : Completion) → machine_of (asked_machines w) s.0 s.1 ≡ Some m → IsMachineByRows w s m
