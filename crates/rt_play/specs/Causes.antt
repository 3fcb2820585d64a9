-- Why an answer of a run misses something: what came of its query in earlier turns. No two queries of a run have one number, so that events
-- with the answer's number are of this very query.
use Rattle.std.specs.Prelude.{◌≡◌, ◌⊎◌, ℕ, false, List, ◌∷◌, ◌++◌, Option, Some, None, Ok, Err, slice_get}
use Rattle.rt_assign.specs.Placement.{replicas_of}
use Rattle.rt_base.specs.Faults.{fault_of}
use Rattle.rt_base.specs.declared.fault.Fault.TheVariants.{Nothing}
use Rattle.rt_base.specs.declared.numbers.Instance.{Instance}
use Rattle.rt_base.specs.declared.numbers.Offset.{Offset}
use Rattle.rt_base.specs.declared.numbers.Partition.{Partition}
use Rattle.rt_base.specs.declared.numbers.Sequence.{Sequence}
use Rattle.rt_entry.specs.declared.refused.ServeRefused.TheVariants.{NotServed}
use Rattle.rt_events.specs.declared.event.Event.{Event}
use Rattle.rt_events.specs.declared.event.Event.TheVariants as event
use Rattle.rt_events.specs.declared.outcome.Outcome.{Outcome}
use Rattle.rt_events.specs.declared.outcome.Outcome.TheVariants as told
use Rattle.rt_lists.specs.Members.{Has}
use Rattle.rt_model.specs.Metadata.{metadata_of}
use Rattle.rt_model.specs.Plan.{plan_of}
use Rattle.rt_model.specs.declared.answer.Answer.{Answer}
use Rattle.rt_model.specs.declared.piece.Piece.{Piece}
use Rattle.rt_model.specs.declared.setup.Setup.{Setup}
use Rattle.rt_nodes.specs.declared.server_node.ServerNode.{ServerNode}
use Rattle.rt_safety.specs.Runs.{Leads, Runs, Turn, happens}
use Rattle.rt_server.specs.Serving.{serve}
use Rattle.rt_state.specs.declared.state.State.{State}
use Rattle.rt_world.specs.Step.{Steps}

-- on the way to a world of a run, an event happened in an earlier world of it, with this outcome
pub record Happened (setup : Setup) (turns : List Turn) (w : State) (e : Event) (outcome : Outcome) (earlier : State) : Type 0 where
  pub before : List Turn
  pub after : List Turn
  pub whole : turns ≡ before ++ (happens e outcome ∷ after)
  pub runs : Runs setup before earlier
  pub leads : Leads earlier (happens e outcome ∷ after) w

-- the query's partition was routed, by the plan over the metadata list of an earlier world, and this plan has the piece
pub record WasPlanned (setup : Setup) (turns : List Turn) (w : State) (q : ℕ) (p : Partition) (piece : Piece) : Type 0 where
  pub earlier : State
  pub count : ℕ
  pub routed : Happened setup turns w (event.Route q p) (told.Routed count) earlier
  pub planned : Has (plan_of p (metadata_of earlier.store.writes p)) piece

-- by what was told of it a server was down, or served none of the piece
abbrev pub RefusesBy : Outcome → ServerNode → Piece → Type 0
RefusesBy outcome node piece =
    ((outcome ≡ told.NodeDown) × (node.up ≡ false))
    ⊎ ((outcome ≡ told.NotServed) × ((reached : Option Offset) × (serve node.server.table piece ≡ Err (NotServed reached))))

-- the query asked the server for the piece in an earlier world, and the server was down there, or didn't serve it, as was told of that turn
pub record WasRefused (setup : Setup) (turns : List Turn) (w : State) (q : ℕ) (p : Partition) (piece : Piece) (i : Instance) : Type 0 where
  pub earlier : State
  pub outcome : Outcome
  pub asked : Happened setup turns w (event.Piece q p piece.sequence i) outcome earlier
  pub node : ServerNode
  pub there : slice_get earlier.servers i.0 ≡ Some node
  pub refuses : RefusesBy outcome node piece

-- a piece of the query's plan, for which it asked each of the partition's servers, none of which gave it
pub record WasMissed (setup : Setup) (turns : List Turn) (w : State) (q : ℕ) (p : Partition) (s : Sequence) : Type 0 where
  pub piece : Piece
  pub planned : WasPlanned setup turns w q p piece
  pub sequence : piece.sequence ≡ s
  pub refused : (i : Instance) → Has (replicas_of p setup.table.replication setup.servers) i → WasRefused setup turns w q p piece i

-- the query's partition was to be routed in an earlier world, and the store failed, as was planned there
pub record WasUnrouted (setup : Setup) (turns : List Turn) (w : State) (q : ℕ) (p : Partition) : Type 0 where
  pub earlier : State
  pub failed : Happened setup turns w (event.Route q p) told.Failed earlier
  pub faulted : fault_of earlier.store.faults.plan ≡ Nothing → ⊥

-- why a piece of a partition is missing, and why a whole partition is
abbrev pub IsCaused : Setup → List Turn → State → ℕ → Partition → Option Sequence → Type 0
IsCaused setup turns w q p (Some s) = WasMissed setup turns w q p s
IsCaused setup turns w q p None = WasUnrouted setup turns w q p

-- an answer that is given in this world of a run misses nothing without its cause
abbrev pub MissesForCause : Setup → List Turn → State → Type 0
MissesForCause setup turns w =
    (q : ℕ) (answer : Answer) (next : State) (p : Partition) (s : Option Sequence) → Steps w (event.Answer q) next (Ok (told.Answered answer)) → Has answer.missing (p, s)
    → IsCaused setup turns w q p s
