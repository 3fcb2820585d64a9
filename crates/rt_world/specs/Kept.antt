-- What a world means: the state of everything, until memory ran out at an event.
use Rattle.std.specs.Prelude.{Bool}
use Rattle.rt_state.specs.declared.state.State.{State}

pub record Kept : Type 0 where
  pub state : State
  -- memory ran out: the state says nothing more
  pub spent : Bool
