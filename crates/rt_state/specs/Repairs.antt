-- What a controller does for a partition on its own: the repair, and the retiring of old segments.
use Rattle.std.specs.Prelude.{◌≡◌, ◌&&◌, ℕ, Bool, false, length, slice_get, slice_set, Option, Some, None, is_some, Ok}
use Rattle.rt_base.specs.declared.numbers.ControllerId.{ControllerId}
use Rattle.rt_base.specs.declared.numbers.Moment.{Moment}
use Rattle.rt_base.specs.declared.numbers.Partition.{Partition}
use Rattle.rt_repair.specs.Repairing.{Repairing, set_entries}
use Rattle.rt_repair.specs.Retirement.{Retirement, set_entries as retire_sets}
use Rattle.rt_store.specs.Meaning.{Told}
use Rattle.rt_state.specs.Applying.{Next}
use Rattle.rt_state.specs.Finding.{has_partition, has_controller, is_controller_up}
use Rattle.rt_state.specs.Jobs.{noted_set}
use Rattle.rt_state.specs.Room.{Found, Due, set_cost, priced, counted}
use Rattle.rt_state.specs.Tests.{Tests, met}
use Rattle.rt_state.specs.Tests as test
use Rattle.rt_nodes.specs.declared.chore.Chore.{Chore}
use Rattle.rt_nodes.specs.declared.chore.Chore.TheVariants.{Repair, Retire}
use Rattle.rt_nodes.specs.declared.controller_node.ControllerNode.{ControllerNode}
use Rattle.rt_state.specs.declared.cost.Cost.{Cost}
use Rattle.rt_state.specs.declared.state.State.{State}
use Rattle.rt_nodes.specs.declared.upkeep.Upkeep.{Upkeep}
pub use Rattle.rt_nodes.specs.Repairs.{begun, going_on, UpkeepRepairs, retiring, retiring_on, UpkeepRetires, UpkeepSteps, NodeKeepsAt, NodeKeeps, IsReadyFor, IsReadyRepair, IsReadyRetirement}

-- what a controller has under way for a partition
abbrev pub upkeep_in : Option ControllerNode → Partition → Option Upkeep
upkeep_in None p = None
upkeep_in (Some n) p = slice_get n.upkeep p.0

abbrev pub upkeep_at : State → ControllerId → Partition → Option Upkeep
upkeep_at w c p = upkeep_in (slice_get w.controllers c.0) p

abbrev pub believes_in : Option ControllerNode → Bool
believes_in None = false
believes_in (Some n) = n.controller.leads

abbrev pub believes_at : State → ControllerId → Bool
believes_at w c = believes_in (slice_get w.controllers c.0)

-- a controller and a partition that are there, the controller being up
abbrev pub upkeep_tests : State → ControllerId → Partition → Tests
upkeep_tests w c p = test.there (has_controller w c && has_partition w p) (test.up (is_controller_up w c) test.none)

abbrev pub find_upkeep : State → ControllerId → Partition → Found
find_upkeep w c p = met (upkeep_tests w c p) (Ok tt)

-- what is under way for a partition changes, with one call of the store
abbrev pub after_upkeep : State → ControllerId → Partition → ControllerNode → Upkeep → Told → Cost → State
after_upkeep w c p node upkeep store cost =
    counted
    (noted_set
    (record w {
      controllers = slice_set w.controllers c.0 (record node { upkeep = slice_set node.upkeep p.0 upkeep });
      store = store;
    }) cost (length w.store.writes))
    cost

-- ---- when it can happen

-- the entries of the ideal state that the next step of what is under way sets
abbrev pub set_by_repair : Option Repairing → Moment → Option ℕ
set_by_repair None now = None
set_by_repair (Some r) now = set_entries r now

abbrev pub set_by_retirement : Option Retirement → Moment → Option ℕ
set_by_retirement None now = None
set_by_retirement (Some r) now = retire_sets r now

abbrev pub repair_tests : State → ControllerId → Option Repairing → Tests
repair_tests w c None = test.due (believes_at w c) test.none
repair_tests w c (Some r) = test.none

abbrev pub repair_by : State → ControllerId → Option Repairing → Due
repair_by w c o = met (repair_tests w c o) (priced w (set_cost (set_by_repair o w.moment)))

abbrev pub repair_in : Option Upkeep → Option Repairing
repair_in None = None
repair_in (Some u) = u.repair

abbrev pub retain_tests : State → ControllerId → Option Retirement → Tests
retain_tests w c None = test.due (is_some w.setup.retention && believes_at w c) test.none
retain_tests w c (Some r) = test.none

abbrev pub retain_by : State → ControllerId → Option Retirement → Due
retain_by w c o = met (retain_tests w c o) (priced w (set_cost (set_by_retirement o w.moment)))

abbrev pub retirement_in : Option Upkeep → Option Retirement
retirement_in None = None
retirement_in (Some u) = u.retirement

abbrev pub set_by : Chore → Option Upkeep → Moment → Option ℕ
set_by Repair u now = set_by_repair (repair_in u) now
set_by Retire u now = set_by_retirement (retirement_in u) now

abbrev pub tests_by : Chore → State → ControllerId → Option Upkeep → Tests
tests_by Repair w c u = repair_tests w c (repair_in u)
tests_by Retire w c u = retain_tests w c (retirement_in u)

abbrev pub chore_by : Chore → State → ControllerId → Option Upkeep → Due
chore_by chore w c u = met (tests_by chore w c u) (priced w (set_cost (set_by chore u w.moment)))

abbrev pub chore_tests : State → ControllerId → Partition → Chore → Tests
chore_tests w c p chore = test.behind (upkeep_tests w c p) (tests_by chore w c (upkeep_at w c p))

abbrev pub chore_due : State → ControllerId → Partition → Chore → Due
chore_due w c p chore = met (chore_tests w c p chore) (priced w (set_cost (set_by chore (upkeep_at w c p) w.moment)))

-- ---- where it leads

abbrev pub KeepsAt : Option ControllerNode → Option Upkeep → State → ControllerId → Partition → Chore → Cost → Next → Type 0
KeepsAt None u w c p chore cost x = ⊥
KeepsAt (Some node) None w c p chore cost x = ⊥
KeepsAt (Some node) (Some old) w c p chore cost x =
    (new : Upkeep) × (store : Told) × UpkeepSteps chore w.setup p w.moment w.store store old new x.1
    × (x.0 ≡ after_upkeep w c p node new store cost)

abbrev pub Keeps : State → ControllerId → Partition → Chore → Cost → Next → Type 0
Keeps w c p chore cost x = KeepsAt (slice_get w.controllers c.0) (upkeep_at w c p) w c p chore cost x
