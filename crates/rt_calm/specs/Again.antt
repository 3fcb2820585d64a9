-- What may lie ahead again of replicas: of committers for which their segment's machine doesn't wait, and of all replicas of a segment
-- whose machine answers no commit any more. They may be told FAILED, and begin again.
use Rattle.std.specs.Prelude.{◌≡◌, ℕ, suc, ◌+◌, ◌==◌, ◌&&◌, ◌||◌, not, Bool, true, false, if◌then◌else◌, List, [], ◌∷◌, slice_get, Option, Some, None}
use Rattle.rt_base.specs.declared.numbers.ControllerId.{ControllerId}
use Rattle.rt_base.specs.declared.numbers.Offset.{Offset}
use Rattle.rt_base.specs.declared.numbers.Partition.{Partition}
use Rattle.rt_base.specs.declared.numbers.Sequence.{Sequence}
use Rattle.rt_consumer.specs.declared.phase.Phase.{Phase}
use Rattle.rt_consumer.specs.declared.phase.Phase.TheVariants as phase
use Rattle.rt_consumer.specs.declared.stage.Stage.{Stage}
use Rattle.rt_consumer.specs.declared.stage.Stage.TheVariants.{Building, CatchingUp, ConsumingToOnline, Ending, Holding, InitialConsuming, Retaining, Starting, Uploading}
use Rattle.rt_controller.specs.Controller.{has_ended, is_of}
use Rattle.rt_controller.specs.declared.segment_machine.SegmentMachine.{SegmentMachine}
use Rattle.rt_entry.specs.declared.entry.Entry.{Entry}
use Rattle.rt_entry.specs.declared.entry.Entry.TheVariants.{Committed, Replica}
use Rattle.rt_model.specs.Completion.{Completion}
use Rattle.rt_model.specs.History.{value_of}
use Rattle.rt_model.specs.declared.machine_state.MachineState.{MachineState}
use Rattle.rt_model.specs.declared.machine_state.MachineState.TheVariants as machine
use Rattle.rt_model.specs.declared.node.Key.TheVariants as key
use Rattle.rt_model.specs.declared.node.Seen.{Seen}
use Rattle.rt_nodes.specs.declared.controller_node.ControllerNode.{ControllerNode}
use Rattle.rt_nodes.specs.declared.server_node.ServerNode.{ServerNode}
use Rattle.rt_server.specs.Table.{Segment}
use Rattle.rt_state.specs.declared.state.State.{State}
use Rattle.rt_world.specs.Reading.{leader_in}
use Rattle.rt_calm.specs.Ahead.{ahead_in_world}

-- ---- a committer and its segment's machine

-- from COMMIT to the end of its job
abbrev pub commits_at : Stage → Bool
commits_at (Building reason) = true
commits_at (Starting reason built) = true
commits_at (Uploading reason built) = true
commits_at (Ending reason built path) = true
commits_at InitialConsuming = false
commits_at (CatchingUp target reason) = false
commits_at (Holding reason) = false
commits_at (ConsumingToOnline end done) = false
commits_at (Retaining done) = false

-- it waits for a CommitStart
abbrev pub is_notified : MachineState → Bool
is_notified machine.CommitterNotified = true
is_notified machine.PartialConsuming = false
is_notified machine.Holding = false
is_notified machine.CommitterDecided = false
is_notified machine.CommitterUploading = false
is_notified machine.Committing = false
is_notified machine.Committed = false
is_notified machine.Aborted = false

-- it waits for a CommitEnd
abbrev pub is_uploading : MachineState → Bool
is_uploading machine.CommitterUploading = true
is_uploading machine.PartialConsuming = false
is_uploading machine.Holding = false
is_uploading machine.CommitterDecided = false
is_uploading machine.CommitterNotified = false
is_uploading machine.Committing = false
is_uploading machine.Committed = false
is_uploading machine.Aborted = false

-- a machine in this state waits for what a committer at this stage asks next of it
abbrev pub waits_at : Stage → MachineState → Bool
waits_at (Building reason) s = is_notified s
waits_at (Starting reason built) s = is_notified s
waits_at (Uploading reason built) s = is_uploading s
waits_at (Ending reason built path) s = is_uploading s
waits_at InitialConsuming s = false
waits_at (CatchingUp target reason) s = false
waits_at (Holding reason) s = false
waits_at (ConsumingToOnline end done) s = false
waits_at (Retaining done) s = false

-- and for this instance, at this offset
abbrev pub awaits : Option Completion → ℕ → Stage → Offset → Bool
awaits None i stage x = false
awaits (Some m) i stage x = waits_at stage m.state && ((m.winner.0 == i) && (m.offset.0 == x.0))

-- ---- a machine and its segment's node

abbrev pub is_version : Option Seen → ℕ → Bool
is_version None version = false
is_version (Some w) version = w.version == version

-- it has ended, or has read another version of its segment's node than the present one
abbrev pub is_spent : List Seen → Partition → Sequence → Completion → Bool
is_spent h p q m = has_ended m.state || not (is_version (value_of h (key.Meta p q)) m.seen.version)

-- ---- what may lie ahead again

-- more than the steps from HOLDING to a CommitEnd, which FAILED takes back
abbrev pub steps_if : Bool → ℕ
steps_if true = 6
steps_if false = 0

-- of each replica of a segment whose machine is spent
abbrev pub spent_again : List Seen → Partition → Sequence → Option Completion → ℕ
spent_again h p q None = 0
spent_again h p q (Some m) = steps_if (is_spent h p q m)

-- of a committer for which the machine doesn't wait
abbrev pub stray_again : Option Completion → ℕ → Phase → ℕ
stray_again m i (phase.Unsealed o) = steps_if (commits_at o.stage && not (awaits m i o.stage o.rows.end))
stray_again m i (phase.Retained kept) = 0
stray_again m i (phase.Committed kept) = 0
stray_again m i (phase.Discarded d) = 0

-- the machine of a segment
abbrev pub machine_of : List SegmentMachine → Partition → Sequence → Option Completion
machine_of [] p q = None
machine_of (m ∷ ms) p q = if is_of p q m then Some m.machine else machine_of ms p q

-- of an instance's replica
abbrev pub again_by : List Seen → Segment → Option Completion → ℕ → Phase → ℕ
again_by h s m i ph = spent_again h s.0 s.1 m + stray_again m i ph

-- of an instance's entry of a segment
abbrev pub again_entry : List Seen → List SegmentMachine → ℕ → Segment → Entry → ℕ
again_entry h ms i s (Replica r) = again_by h s (machine_of ms s.0 s.1) i r.phase
again_entry h ms i s (Committed c) = 0

abbrev pub again_table : List Seen → List SegmentMachine → ℕ → List (Segment × Entry) → ℕ
again_table h ms i [] = 0
again_table h ms i (e ∷ es) = again_entry h ms i e.0 e.1 + again_table h ms i es

-- of servers, from this instance on
abbrev pub again_servers : List Seen → List SegmentMachine → ℕ → List ServerNode → ℕ
again_servers h ms i [] = 0
again_servers h ms i (n ∷ ns) = again_table h ms i n.server.table.entries + again_servers h ms (suc i) ns

-- ---- a world

abbrev pub machines_in : Option ControllerNode → List SegmentMachine
machines_in None = []
machines_in (Some n) = n.controller.machines

abbrev pub machines_by : List ControllerNode → Option ControllerId → List SegmentMachine
machines_by cs None = []
machines_by cs (Some c) = machines_in (slice_get cs c.0)

-- the machines of the controller that replicas ask
abbrev pub asked_machines : State → List SegmentMachine
asked_machines w = machines_by w.controllers (leader_in w)

-- what lies ahead of all replicas, and what may lie ahead again
abbrev pub ahead_still : State → ℕ
ahead_still w = ahead_in_world w + again_servers w.store.writes (asked_machines w) 0 w.servers

-- a controller that is up believes that it leads
pub record IsLeading (w : State) : Type 0 where
  pub place : ℕ
  pub node : ControllerNode
  pub there : slice_get w.controllers place ≡ Some node
  pub up : node.up ≡ true
  pub leads : node.controller.leads ≡ true
