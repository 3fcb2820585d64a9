-- What the reading calls give.
use Rattle.std.specs.List.{position}
use Rattle.std.specs.Prelude.{Bool, Err, List, None, Ok, Option, Result, Some, [], false, if◌then◌else◌, nat_le, nat_lt, slice_get, suc, zero, ℕ, ◌&&◌, ◌++◌, ◌-◌, ◌∷◌, ◌≡◌}
use Rattle.rt_base.specs.declared.gate.NodeId.{NodeId}
use Rattle.rt_base.specs.declared.limits.TheConstants.{MOST_EVENTS}
use Rattle.rt_base.specs.declared.limits.TheConstants.{LAST_NUMBER}
use Rattle.rt_base.specs.declared.numbers.ControllerId.{ControllerId}
use Rattle.rt_base.specs.declared.numbers.Instance.{Instance}
use Rattle.rt_base.specs.declared.numbers.Offset.{Offset}
use Rattle.rt_base.specs.declared.numbers.Partition.{Partition}
use Rattle.rt_base.specs.declared.numbers.Sequence.{Sequence}
use Rattle.rt_broker.specs.Asking.{Asking, pieces_at}
use Rattle.rt_events.specs.declared.refusal.Refusal.{Refusal}
use Rattle.rt_model.specs.History.{value_of}
use Rattle.rt_model.specs.Metadata.{metadata_of}
use Rattle.rt_model.specs.declared.ideal_state.IdealState.{IdealState}
use Rattle.rt_model.specs.declared.node.Listed.{Listed}
use Rattle.rt_model.specs.declared.node.Node.{Node}
use Rattle.rt_model.specs.declared.node.Seen.{Seen}
use Rattle.rt_model.specs.declared.piece.Piece.{Piece}
use Rattle.rt_model.specs.declared.replica_state.ReplicaState.{ReplicaState}
use Rattle.rt_model.specs.declared.status.Status.{Status}
use Rattle.rt_model.specs.declared.status.Status.TheVariants.{InProgress, Done, Abandoned}
use Rattle.rt_pause.specs.declared.replica_seen.ReplicaSeen.{ReplicaSeen}
use Rattle.rt_consumer.specs.Next.{next_of}
use Rattle.rt_consumer.specs.Requests.{is_ready}
use Rattle.rt_consumer.specs.declared.consumer.Consumer.{Consumer}
use Rattle.rt_consumer.specs.declared.next.ReplicaDue.{ReplicaDue}
use Rattle.rt_server.specs.Due.{due_of as due_segments, wanted_of, held_of}
use Rattle.rt_server.specs.Resting.{rests_in, stands_so}
use Rattle.rt_server.specs.Table.{Segment, Segments}
use Rattle.rt_entry.specs.declared.served_rows.ServedRows.{ServedRows}
use Rattle.rt_stream.specs.Log.{messages_of, end_of}
use Rattle.rt_state.specs.Finding.{find_server, is_server_up, is_controller_up, replica_at, query_at}
use Rattle.rt_state.specs.Room.{Found}
use Rattle.rt_nodes.specs.declared.server_node.ServerNode.{ServerNode}
use Rattle.rt_state.specs.declared.state.State.{State}
use Rattle.rt_model.specs.declared.node.Key.TheVariants as key
use Rattle.rt_model.specs.declared.node.Node.TheVariants as node
use Rattle.rt_base.specs.declared.gate.NodeId.TheVariants as node_id
pub use Rattle.rt_nodes.specs.Reading.{leads, stands, rows_by, rows_of_node, seen_as, seen_among, seen_of, replica_up, stage_of, file_in, file_bytes}

abbrev pub up_in : State → NodeId → Bool
up_in w (node_id.Server i) = is_server_up w i
up_in w (node_id.Controller c) = is_controller_up w c
up_in w node_id.Repairer = false
up_in w node_id.Broker = false
up_in w node_id.Producer = false

-- ---- the leader

abbrev pub either : Option ℕ → Option ℕ → Option ℕ
either None later = later
either (Some place) later = Some place

abbrev pub controller_at : ℕ → Option ControllerId
controller_at place = if nat_le place LAST_NUMBER then Some (record { 0 = place }) else None

abbrev pub then_at : Option ℕ → Option ControllerId
then_at None = None
then_at (Some place) = controller_at place

-- the place of the lowest controller that is up and believes that it leads; else of the lowest that is up
abbrev pub leading_place : State → Option ℕ
leading_place w = either (position leads w.controllers) (position stands w.controllers)

abbrev pub leader_in : State → Option ControllerId
leader_in w = then_at (leading_place w)

-- ---- a partition

abbrev pub length_of : State → Partition → Offset
length_of w p = end_of (messages_of w.log p)

abbrev pub end_after : Offset → Status → Offset
end_after end InProgress = end
end_after end (Done commit) = commit.end
end_after end Abandoned = end

abbrev pub last_end : Offset → List Listed → Offset
last_end end [] = end
last_end end (node ∷ nodes) = last_end (end_after end node.seen.meta.status) nodes

-- the end of the last Done node, or 0
abbrev pub end_in : State → Partition → Offset
end_in w p = last_end (record { 0 = 0 }) (metadata_of w.store.writes p)

-- ---- a server

abbrev pub is_ready_by : State → Partition → Option Consumer → Bool
is_ready_by w p None = false
is_ready_by w p (Some r) = is_ready r (length_of w p) w.moment

abbrev pub is_ready_in : State → Instance → Partition → Sequence → Bool
is_ready_in w i p q = is_ready_by w p (replica_at w i p q)

abbrev pub is_ready_at : State → Instance → Partition → Sequence → Bool
is_ready_at w i p q = nat_lt p.0 w.setup.partitions && is_ready_in w i p q

abbrev pub next_by : State → Partition → Option Consumer → Option ReplicaDue
next_by w p None = None
next_by w p (Some r) = next_of r (length_of w p) w.moment

abbrev pub next_in : State → Instance → Partition → Sequence → Option ReplicaDue
next_in w i p q = next_by w p (replica_at w i p q)

abbrev pub next_found : Found → Option ReplicaDue → Result (Option ReplicaDue) Refusal
next_found (Ok u) due = Ok due
next_found (Err e) due = Err e

-- what the replica of a segment has to do next; refused as an event of it is, for its server or its partition
abbrev pub next_at : State → Instance → Partition → Sequence → Result (Option ReplicaDue) Refusal
next_at w i p q = next_found (find_server w i p) (next_in w i p q)

abbrev pub listed_by : (Segments → List Segment) → Option ServerNode → List Segment
listed_by lists None = []
listed_by lists (Some n) = lists n.server.table

abbrev pub due_transits_of : State → Instance → List Segment
due_transits_of w i = listed_by due_segments (slice_get w.servers i.0)

abbrev pub wanted_in : State → Instance → List Segment
wanted_in w i = listed_by wanted_of (slice_get w.servers i.0)

abbrev pub held_in : State → Instance → List Segment
held_in w i = listed_by held_of (slice_get w.servers i.0)

-- ---- a query

abbrev pub pieces_by : Option Asking → Partition → List Piece
pieces_by None p = []
pieces_by (Some a) p = pieces_at a p

abbrev pub pieces_of : State → ℕ → Partition → List Piece
pieces_of w q p = pieces_by (query_at w q) p

-- ---- what a server that is up has

abbrev pub ServesRows : State → Instance → Piece → Option ServedRows → Type 0
ServesRows w i piece rows = rows ≡ rows_of_node (slice_get w.servers i.0) piece

-- of the server of a number, where there is one
abbrev pub seen_at : ℕ → Option ServerNode → List ReplicaSeen
seen_at i None = []
seen_at i (Some n) = seen_of (record { 0 = i }) n

-- of the servers below a number
abbrev pub seen_below : State → ℕ → List ReplicaSeen
seen_below w zero = []
seen_below w (suc i) = seen_below w i ++ seen_at i (slice_get w.servers i)

abbrev pub replicas_seen : State → List ReplicaSeen
replicas_seen w = seen_below w w.setup.servers

abbrev pub stage_at : State → Instance → Partition → Sequence → Option ReplicaState
stage_at w i p q = stage_of (replica_up (slice_get w.servers i.0) p q)

-- whether the replica of a segment is at rest
abbrev pub at_rest : State → Instance → Segment → Bool
at_rest w i s = stands_so rests_in (stage_at w i s.0 s.1)

abbrev pub copy_in : State → Instance → Partition → Sequence → Option (List ℕ)
copy_in w i p q = file_bytes (file_in (slice_get w.servers i.0) p q)

-- ---- the ideal state

abbrev pub ideal_by : Node → Option IdealState
ideal_by (node.Ideal i) = Some i
ideal_by (node.Meta m) = None
ideal_by node.Boot = None
ideal_by node.Gone = None

abbrev pub ideal_seen : Option Seen → Option IdealState
ideal_seen None = None
ideal_seen (Some w) = ideal_by w.node

abbrev pub ideal_in : State → Option IdealState
ideal_in w = ideal_seen (value_of w.store.writes key.Ideal)

-- ---- the run

abbrev pub events_left_in : State → ℕ
events_left_in w = MOST_EVENTS - w.counts.events
