-- What lies ahead of replicas as they stand: messages to take, steps, and requests, until they have what was committed, or nothing.
use Rattle.std.specs.Prelude.{ℕ, ◌+◌, ◌-◌, Bool, true, false, List, [], ◌∷◌, length}
use Rattle.rt_consumer.specs.declared.consumer.Consumer.{Consumer}
use Rattle.rt_consumer.specs.declared.phase.Phase.{Phase}
use Rattle.rt_consumer.specs.declared.phase.Phase.TheVariants as phase
use Rattle.rt_consumer.specs.declared.stage.Stage.{Stage}
use Rattle.rt_consumer.specs.declared.stage.Stage.TheVariants.{InitialConsuming, CatchingUp, Holding, ConsumingToOnline, Retaining, Building, Starting, Uploading, Ending}
use Rattle.rt_entry.specs.declared.entry.Entry.{Entry}
use Rattle.rt_entry.specs.declared.entry.Entry.TheVariants.{Replica, Committed}
use Rattle.rt_model.specs.Entries.{entries_of}
use Rattle.rt_model.specs.declared.ideal_state.IdealEntry.{IdealEntry}
use Rattle.rt_nodes.specs.declared.server_node.ServerNode.{ServerNode}
use Rattle.rt_server.specs.Table.{Segment}
use Rattle.rt_state.specs.declared.state.State.{State}
use Rattle.rt_stream.specs.Log.{Log, messages_of}

-- the steps of a stage to the end of its segment, if nobody puts it off
abbrev pub steps_at : Stage → ℕ
steps_at InitialConsuming = 10
steps_at (Holding reason) = 9
steps_at (CatchingUp target reason) = 8
steps_at (Building reason) = 7
steps_at (Starting reason built) = 6
steps_at (Uploading reason built) = 5
steps_at (Ending reason built path) = 4
steps_at (ConsumingToOnline end done) = 3
steps_at (Retaining done) = 2

-- each message ahead is taken once, and may lead to another request
abbrev pub ahead_at : Stage → ℕ → ℕ → ℕ
ahead_at stage x size = (size - x) + (size - x) + steps_at stage

abbrev pub stop_ahead : Bool → ℕ
stop_ahead true = 1
stop_ahead false = 0

abbrev pub ahead_in : Phase → ℕ → ℕ
ahead_in (phase.Unsealed o) size = ahead_at o.stage o.rows.end.0 size
ahead_in (phase.Retained kept) size = 0
ahead_in (phase.Committed kept) size = 0
ahead_in (phase.Discarded d) size = stop_ahead d.stopped

abbrev pub ahead_of : Log → Consumer → ℕ
ahead_of log r = ahead_in r.phase (length (messages_of log r.partition))

-- ---- a world

abbrev pub ahead_entry : Log → Entry → ℕ
ahead_entry log (Replica r) = ahead_of log r
ahead_entry log (Committed c) = 0

abbrev pub ahead_table : Log → List (Segment × Entry) → ℕ
ahead_table log [] = 0
ahead_table log (e ∷ es) = ahead_entry log e.1 + ahead_table log es

abbrev pub ahead_servers : Log → List ServerNode → ℕ
ahead_servers log [] = 0
ahead_servers log (n ∷ ns) = ahead_table log n.server.table.entries + ahead_servers log ns

-- of all its replicas
abbrev pub ahead_in_world : State → ℕ
ahead_in_world w = ahead_servers w.log w.servers

-- for each entry of an ideal state twice the messages of its partition, and all steps
abbrev pub most_ahead_of : Log → List IdealEntry → ℕ
most_ahead_of log [] = 0
most_ahead_of log (e ∷ es) = (length (messages_of log e.partition) + length (messages_of log e.partition) + 10) + most_ahead_of log es

-- the most that can lie ahead where servers have what the ideal state asks of them
abbrev pub most_ahead : State → ℕ
most_ahead w = most_ahead_of w.log (entries_of w.store.writes)
