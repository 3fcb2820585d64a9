-- What happens was due.
use Rattle.std.proofs.Common.{◌≡◌, ℕ, true, Ok, ap}
use Rattle.rt_base.specs.declared.numbers.Instance.{Instance}
use Rattle.rt_base.specs.declared.numbers.Partition.{Partition}
use Rattle.rt_base.specs.declared.numbers.Sequence.{Sequence}
use Rattle.rt_desk.specs.Saying.{is_due}
use Rattle.rt_events.specs.declared.event.Event.TheVariants.{Consume}
use Rattle.rt_events.specs.declared.outcome.Outcome.{Outcome}
use Rattle.rt_macros.specs.Doing.{Happens, Reached}
use Rattle.rt_state.specs.Room.{Due, dropped}
use Rattle.rt_world.specs.Step.{due_of}
use Rattle.rt_state.specs.declared.state.State.{State}

pub consume_was_due : (i : Instance) (p : Partition) (q : Sequence) (max : ℕ) (w : State) (v : Reached) (outcome : Outcome) → Happens (Consume i p q max) w v (Ok outcome)
    → is_due (due_of w (Consume i p q max)) ≡ true
consume_was_due i p q max w v outcome came = ap (λ (due : Due). is_due (dropped due)) came.by.0.1
