-- What is left to do for replicas until they ask or rest: messages to take, and steps.
use Rattle.std.specs.Prelude.{ℕ, ◌+◌, ◌-◌, ◌≡◌, List, [], ◌∷◌, Some, length, slice_get}
use Rattle.rt_base.specs.declared.numbers.Offset.{Offset}
use Rattle.rt_consumer.specs.declared.consumer.Consumer.{Consumer}
use Rattle.rt_consumer.specs.declared.phase.Phase.{Phase}
use Rattle.rt_consumer.specs.declared.phase.Phase.TheVariants as phase
use Rattle.rt_consumer.specs.declared.stage.Stage.{Stage}
use Rattle.rt_consumer.specs.declared.stage.Stage.TheVariants.{InitialConsuming, CatchingUp, Holding, ConsumingToOnline, Retaining, Building, Starting, Uploading, Ending}
use Rattle.rt_entry.specs.declared.entry.Entry.{Entry}
use Rattle.rt_entry.specs.declared.entry.Entry.TheVariants.{Replica, Committed}
use Rattle.rt_lists.specs.Members.{Has}
use Rattle.rt_model.specs.Entries.{entries_of}
use Rattle.rt_model.specs.declared.ideal_state.IdealEntry.{IdealEntry}
use Rattle.rt_nodes.specs.declared.server_node.ServerNode.{ServerNode}
use Rattle.rt_server.specs.Table.{Segment}
use Rattle.rt_state.specs.declared.state.State.{State}
use Rattle.rt_stream.specs.Log.{Log, messages_of}
use Rattle.rt_heal.specs.Reachable.{IsReachable}

-- ---- a replica

-- at an offset of a log of so many messages: the messages up to the log's end or the target, and the step that comes behind them; a
-- file that is to be built
abbrev pub left_at : Stage → ℕ → ℕ → ℕ
left_at InitialConsuming x size = (size - x) + 1
left_at (CatchingUp target reason) x size = target.0 - x
left_at (ConsumingToOnline end done) x size = (end.0 - x) + 1
left_at (Retaining done) x size = 1
left_at (Building reason) x size = 1
left_at (Holding reason) x size = 0
left_at (Starting reason built) x size = 0
left_at (Uploading reason built) x size = 0
left_at (Ending reason built path) x size = 0

abbrev pub left_in : Phase → ℕ → ℕ
left_in (phase.Unsealed o) size = left_at o.stage o.rows.end.0 size
left_in (phase.Retained kept) size = 0
left_in (phase.Committed kept) size = 0
left_in (phase.Discarded d) size = 0

abbrev pub left_of : Log → Consumer → ℕ
left_of log r = left_in r.phase (length (messages_of log r.partition))

-- a target is one that a replica can come to
abbrev pub CanFollowAt : (Offset → Type 0) → Stage → Type 0
CanFollowAt Reaches (CatchingUp target reason) = Reaches target
CanFollowAt Reaches (ConsumingToOnline end done) = Reaches end
CanFollowAt Reaches InitialConsuming = Unit {0}
CanFollowAt Reaches (Retaining done) = Unit {0}
CanFollowAt Reaches (Building reason) = Unit {0}
CanFollowAt Reaches (Holding reason) = Unit {0}
CanFollowAt Reaches (Starting reason built) = Unit {0}
CanFollowAt Reaches (Uploading reason built) = Unit {0}
CanFollowAt Reaches (Ending reason built path) = Unit {0}

abbrev pub CanFollowIn : (Offset → Type 0) → Phase → Type 0
CanFollowIn Reaches (phase.Unsealed o) = CanFollowAt Reaches o.stage
CanFollowIn Reaches (phase.Retained kept) = Unit {0}
CanFollowIn Reaches (phase.Committed kept) = Unit {0}
CanFollowIn Reaches (phase.Discarded d) = Unit {0}

-- a replica that is sent to a target can come to it
abbrev pub CanFollow : Log → Consumer → Type 0
CanFollow log r = CanFollowIn (IsReachable r.settings.schema (messages_of log r.partition) r.start) r.phase

-- ---- a world

abbrev pub left_entry : Log → Entry → ℕ
left_entry log (Replica r) = left_of log r
left_entry log (Committed c) = 0

abbrev pub left_entries : Log → List (Segment × Entry) → ℕ
left_entries log [] = 0
left_entries log (e ∷ es) = left_entry log e.1 + left_entries log es

abbrev pub left_server : Log → ServerNode → ℕ
left_server log n = left_entries log n.server.table.entries

abbrev pub left_servers : Log → List ServerNode → ℕ
left_servers log [] = 0
left_servers log (n ∷ ns) = left_server log n + left_servers log ns

-- all that is left to its replicas
abbrev pub left_in_world : State → ℕ
left_in_world w = left_servers w.log w.servers

-- for each entry of an ideal state all messages of its partition, and a step
abbrev pub most_entries : Log → List IdealEntry → ℕ
most_entries log [] = 0
most_entries log (e ∷ es) = (length (messages_of log e.partition) + 1) + most_entries log es

-- the most that can be left where servers have what the ideal state asks of them
abbrev pub most_left : State → ℕ
most_left w = most_entries w.log (entries_of w.store.writes)

abbrev pub CanFollowEntry : Log → Entry → Type 0
CanFollowEntry log (Replica r) = CanFollow log r
CanFollowEntry log (Committed c) = Unit {0}

-- each replica that is sent to a target can come to it
abbrev pub CanAllFollow : State → Type 0
CanAllFollow w =
    (i : ℕ) (n : ServerNode) → slice_get w.servers i ≡ Some n → (x : Segment × Entry) → Has n.server.table.entries x → CanFollowEntry w.log x.1
