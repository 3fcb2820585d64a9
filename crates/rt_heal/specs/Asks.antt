-- A replica that asks a controller, in one of some turns.
use Rattle.rt_base.specs.declared.numbers.Instance.{Instance}
use Rattle.rt_base.specs.declared.numbers.Partition.{Partition}
use Rattle.rt_base.specs.declared.numbers.Sequence.{Sequence}
use Rattle.rt_events.specs.declared.event.Event.TheVariants.{Report}
use Rattle.rt_events.specs.declared.outcome.Outcome.{Outcome}
use Rattle.rt_lists.specs.Members.{Has}
use Rattle.rt_macros.specs.Doing.{Reached}
use Rattle.rt_safety.specs.Runs.{happens}
use Rattle.rt_state.specs.declared.state.State.{State}
use Rattle.rt_heal.specs.Led.{IsLed}

-- there is a controller to ask, and the request of a replica is among the turns
pub record Asks (w : State) (v : Reached) : Type 0 where
  pub led : IsLed w
  pub instance : Instance
  pub partition : Partition
  pub sequence : Sequence
  pub outcome : Outcome
  pub asks : Has v.turns (happens (Report instance partition sequence) outcome)
