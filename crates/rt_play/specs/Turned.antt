-- Which servers a settle turns to.
use Rattle.std.specs.Prelude.{◌≡◌, ◌<◌, true, List}
use Rattle.rt_base.specs.declared.numbers.Instance.{Instance}
use Rattle.rt_events.specs.declared.event.Event.TheVariants.{See}
use Rattle.rt_events.specs.declared.outcome.Outcome.{Outcome}
use Rattle.rt_lists.specs.Members.{Has}
use Rattle.rt_safety.specs.Runs.{Turn, happens}
use Rattle.rt_state.specs.Finding.{is_server_up}
use Rattle.rt_state.specs.declared.state.State.{State}

-- among these turns each server that is up in a world reads the ideal state
abbrev pub LeaveNoneOut : State → List Turn → Type 0
LeaveNoneOut w turns =
    (i : Instance) → i.0 < w.setup.servers → is_server_up w i ≡ true → (outcome : Outcome) × Has turns (happens (See i) outcome)
