-- What is due where an event can happen is its price.
use Rattle.std.proofs.Common.{◌≡◌, Ok}
use Rattle.rt_events.specs.declared.event.Event.{Event}
use Rattle.rt_state.proofs.Possible.{met_price}
use Rattle.rt_state.specs.Room.{priced}
use Rattle.rt_state.specs.declared.cost.Cost.{Cost}
use Rattle.rt_state.specs.declared.state.State.{State}
use Rattle.rt_world.specs.Step.{cost_of, due_at, tests_at}

pub due_priced : (w : State) (e : Event) (cost : Cost) → due_at w e ≡ Ok cost → priced w (cost_of w e) ≡ Ok cost
due_priced w e cost h = met_price (tests_at w e) (priced w (cost_of w e)) (Ok cost) tt h
