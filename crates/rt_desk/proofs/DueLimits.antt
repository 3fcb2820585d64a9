-- No event, and no line that counts as one, is refused by the limit of the input.
use Rattle.std.proofs.Common.{◌≡◌, true, Err}
use Rattle.rt_base.specs.declared.which.Which.TheVariants.{Input}
use Rattle.rt_events.specs.declared.event.Event.{Event}
use Rattle.rt_events.specs.declared.event.Event.TheVariants.{FaultStore}
use Rattle.rt_events.specs.declared.refusal.Refusal.TheVariants.{Limit}
use Rattle.rt_safety.proofs.OwnLimits.{limit_passed}
use Rattle.rt_state.specs.Clock.{pass_due}
use Rattle.rt_state.specs.Room.{dropped}
use Rattle.rt_world.specs.Step.{due_of}
use Rattle.rt_state.specs.declared.state.State.{State}

pub due_never : (w : State) (event : Event) → due_of w event ≡ Err (Limit Input) → ⊥
due_never w event e = limit_passed w event Input e

-- such a line is due as an event is that costs nothing else
pub pass_due_never : (w : State) → dropped (pass_due w) ≡ Err (Limit Input) → ⊥
pass_due_never w e = limit_passed w (FaultStore true) Input e
