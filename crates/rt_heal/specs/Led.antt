-- A controller that replicas can ask.
use Rattle.std.specs.Prelude.{◌≡◌, Some}
use Rattle.rt_base.specs.declared.numbers.ControllerId.{ControllerId}
use Rattle.rt_state.specs.declared.state.State.{State}
use Rattle.rt_world.specs.Reading.{leader_in}

-- there is a controller that a round asks: the lowest that is up and believes that it leads, or the lowest that is up
abbrev pub IsLed : State → Type 0
IsLed w = (c : ControllerId) × (leader_in w ≡ Some c)
