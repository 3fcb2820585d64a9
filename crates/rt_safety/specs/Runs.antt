-- Runs of a cluster, turn by turn.
use Rattle.std.specs.Prelude.{◌≡◌, List, [], ◌∷◌, Ok}
use Rattle.rt_events.specs.declared.event.Event.{Event}
use Rattle.rt_events.specs.declared.outcome.Outcome.{Outcome}
use Rattle.rt_model.specs.declared.setup.Setup.{Setup}
use Rattle.rt_state.specs.Clock.{Passes}
use Rattle.rt_events.specs.Fits.{Fits}
use Rattle.rt_state.specs.Start.{start}
use Rattle.rt_world.specs.Step.{Steps}
use Rattle.rt_state.specs.declared.state.State.{State}

-- a turn: an event that happened, with what came of it, or a line that is none and counts as one
pub data Turn : Type 0 where
  happens : Event → Outcome → Turn
  passes : Turn

-- a world goes on to another one by a turn. An event that is refused is no turn: it changes nothing
abbrev pub TurnsTo : State → Turn → State → Type 0
TurnsTo old (happens event outcome) new = Fits old.setup.schema event × Steps old event new (Ok outcome)
TurnsTo old passes new = Passes old new (Ok tt)

-- by turns, one after the other, a world goes on to another one
abbrev pub Leads : State → List Turn → State → Type 0
Leads from [] to = to ≡ from
Leads from (turn ∷ turns) to = (next : State) × TurnsTo from turn next × Leads next turns to

-- a run of a cluster: its first world goes on to this one
abbrev pub Runs : Setup → List Turn → State → Type 0
Runs setup turns w = Leads (start setup) turns w
