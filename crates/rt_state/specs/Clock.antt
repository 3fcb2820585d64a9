-- What lies outside the nodes: the clock, who believes that it leads, and the faults to come.
use Rattle.std.specs.Prelude.{◌≡◌, ◌+◌, ◌++◌, ◌∷◌, [], ℕ, Bool, Result, Ok, Err}
use Rattle.rt_base.specs.Faults.{Planned}
use Rattle.rt_base.specs.declared.numbers.ControllerId.{ControllerId}
use Rattle.rt_base.specs.declared.numbers.Moment.{Moment}
use Rattle.rt_controller.specs.Controller.{believing}
use Rattle.rt_events.specs.declared.refusal.Refusal.{Refusal}
use Rattle.rt_state.specs.Applying.{Next}
use Rattle.rt_state.specs.Finding.{controller_tests}
use Rattle.rt_state.specs.Nodes.{ControllerDoes}
use Rattle.rt_state.specs.Room.{Due, no_cost, time_cost, priced, counted}
use Rattle.rt_state.specs.Tests.{Tests, met}
use Rattle.rt_state.specs.Tests as test
use Rattle.rt_nodes.specs.declared.controller_node.ControllerNode.{ControllerNode}
use Rattle.rt_state.specs.declared.cost.Cost.{Cost}
use Rattle.rt_state.specs.declared.state.State.{State}
use Rattle.rt_events.specs.declared.outcome.Outcome.TheVariants as told

-- ---- tick

abbrev pub tick_due : State → ℕ → Due
tick_due w millis = priced w (time_cost millis)

abbrev pub ticked : State → ℕ → Cost → Next
ticked w millis cost =
    let now : Moment = record { 0 = w.moment.0 + millis } in (counted (record w { moment = now }) cost, told.Now now)

-- ---- lead

abbrev pub lead_tests : State → ControllerId → Tests
lead_tests w c = test.behind (controller_tests w c) test.none

abbrev pub lead_due : State → ControllerId → Due
lead_due w c = met (lead_tests w c) (priced w no_cost)

abbrev pub node_believing : Bool → ControllerNode → ControllerNode
node_believing on n = record n { controller = believing n.controller on }

abbrev pub Believes : State → ControllerId → Bool → Cost → Next → Type 0
Believes w c on cost x = ControllerDoes w c (node_believing on) told.Noted cost x

-- ---- fault

abbrev pub fault_due : State → Due
fault_due w = priced w no_cost

abbrev pub with_fault : Planned → Bool → Planned
with_fault faults kept = record faults { plan = faults.plan ++ kept ∷ [] }

abbrev pub store_faulted : State → Bool → Cost → Next
store_faulted w kept cost =
    (counted (record w { store = record w.store { faults = with_fault w.store.faults kept } }) cost, told.Noted)

abbrev pub deep_faulted : State → Bool → Cost → Next
deep_faulted w kept cost =
    (counted (record w { deep = record w.deep { faults = with_fault w.deep.faults kept } }) cost, told.Noted)

-- ---- a line that is no event counts as one

abbrev pub pass_due : State → Due
pass_due w = priced w no_cost

abbrev pub passed : State → State
passed w = counted w no_cost

abbrev pub Passes : State → State → Result (Unit {0}) Refusal → Type 0
Passes old new (Ok u) = (cost : Cost) × (pass_due old ≡ Ok cost) × (new ≡ counted old cost)
Passes old new (Err e) = (pass_due old ≡ Err e) × (new ≡ old)
