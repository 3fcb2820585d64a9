-- What is under way for a partition goes on until it ends.
use Rattle.std.proofs.Common.{◌≡◌, List, Option, Some, Result, Ok, Err, OnErr, slice_get, slice_set, ap, subst, sym, ◌∙◌}
use Rattle.std.specs.declared.alloc.AllocError.{AllocError}
use Rattle.rt_base.specs.declared.numbers.Moment.{Moment}
use Rattle.rt_base.specs.declared.numbers.Partition.{Partition}
use Rattle.rt_events.specs.declared.outcome.Outcome.{Outcome}
use Rattle.rt_lists.proofs.Lists.{set_same}
use Rattle.rt_model.specs.declared.setup.Setup.{Setup}
use Rattle.rt_repair.specs.RepairSteps.{Steps as RepairSteps}
use Rattle.rt_repair.specs.Repairing.{Repairing}
use Rattle.rt_repair.specs.RetireSteps.{Steps as RetireSteps}
use Rattle.rt_repair.specs.Retirement.{Retirement}
use Rattle.rt_repair.specs.declared.repair_step.RepairStep.{RepairStep}
use Rattle.rt_repair.specs.declared.retiring.RetireStep.{RetireStep}
use Rattle.rt_store.specs.Meaning.{Told}
use Rattle.rt_store.specs.Memory.{means}
use Rattle.rt_nodes.specs.declared.controller_node.ControllerNode.{ControllerNode}
use Rattle.rt_nodes.specs.Repairs.{UpkeepRepairs, UpkeepRetires, begun, going_on, retiring, retiring_on}
use Rattle.rt_nodes.specs.declared.upkeep.Upkeep.{Upkeep}

module _ (setup : Setup) (p : Partition) (now : Moment) (before after : Told) (old new : Upkeep) where
  pub repair_stepped : (did : RepairStep) (o : Option Repairing) (from to : Repairing) → old.repair ≡ o → from ≡ begun setup p o
      → RepairSteps {E = Unit {0}} (means before) (means after) from now to (Ok did) → new ≡ record old { repair = going_on to }
      → UpkeepRepairs setup p now before after old new did
  repair_stepped did o from to at begins steps kept = (
    to,
    subst (λ (r : Repairing). RepairSteps {E = Unit {0}} (means before) (means after) r now to (Ok did)) (begins ∙ ap (begun setup p) (sym at)) steps,
    kept,
  )

  pub retirement_stepped : (did : RetireStep) (o : Option Retirement) (from to : Retirement) → old.retirement ≡ o → from ≡ retiring setup p o
      → RetireSteps {E = Unit {0}} (means before) (means after) from now to (Ok did) → new ≡ record old { retirement = retiring_on to }
      → UpkeepRetires setup p now before after old new did
  retirement_stepped did o from to at begins steps kept = (
    to,
    subst (λ (r : Retirement). RetireSteps {E = Unit {0}} (means before) (means after) r now to (Ok did)) (begins ∙ ap (retiring setup p) (sym at)) steps,
    kept,
  )

-- where memory ran out, a controller has under way what it had
abbrev with_upkeep : ControllerNode → List Upkeep → ControllerNode
with_upkeep n upkeep = record n { upkeep = upkeep }

pub node_whole : (n : ControllerNode) (store : Told) (p : Partition) (old new : Upkeep) (left : Told) (result : Result Outcome AllocError)
    → slice_get n.upkeep p.0 ≡ Some old → OnErr result ((new ≡ old) × (left ≡ store))
    → OnErr result ((with_upkeep n (slice_set n.upkeep p.0 new) ≡ n) × (left ≡ store))
node_whole n store p old new left (Ok outcome) there h = tt
node_whole n store p old new left (Err e) there h = (
  ap (λ (u : Upkeep). with_upkeep n (slice_set n.upkeep p.0 u)) h.0 ∙ ap (with_upkeep n) (set_same n.upkeep p.0 old there),
  h.1,
)
