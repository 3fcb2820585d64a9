-- Turns of which each is allowed; and those of a paused run, by which no replica begins to consume.
use Rattle.std.specs.Prelude.{◌≡◌, Bool, true, List, [], ◌∷◌, Some}
use Rattle.rt_events.specs.declared.event.Event.TheVariants.{Consume}
use Rattle.rt_model.specs.declared.replica_state.ReplicaState.TheVariants.{InitialConsuming}
use Rattle.rt_safety.specs.Runs.{Turn, happens, passes, TurnsTo}
use Rattle.rt_world.specs.Reading.{stage_at}
use Rattle.rt_state.specs.declared.state.State.{State}

-- by turns, one after the other, a world goes on to another one, and each of them is allowed in its world
abbrev pub LeadsBy : (State → Turn → Type 0) → State → List Turn → State → Type 0
LeadsBy allowed from [] to = to ≡ from
LeadsBy allowed from (turn ∷ turns) to = (next : State) × TurnsTo from turn next × allowed from turn × LeadsBy allowed next turns to

-- a turn by which a replica begins to consume
abbrev pub Begins : State → Turn → Type 0
Begins w (happens (Consume instance partition sequence max) outcome) = stage_at w instance partition sequence ≡ Some InitialConsuming
Begins w (happens event outcome) = ⊥
Begins w passes = ⊥

-- while the run is paused there is none
abbrev pub Allowed : Bool → State → Turn → Type 0
Allowed paused w turn = paused ≡ true → Begins w turn → ⊥
