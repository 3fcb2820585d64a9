-- What is under way for a partition at a controller: its repair, and its retirement.
use Rattle.std.specs.Prelude.{◌≡◌, if◌then◌else◌, slice_get, slice_set, List, Option, Some, None, IsNone, IsSome, unwrap_or, Ok}
use Rattle.rt_base.specs.declared.numbers.Moment.{Moment}
use Rattle.rt_base.specs.declared.numbers.Partition.{Partition}
use Rattle.rt_events.specs.declared.outcome.Outcome.{Outcome}
use Rattle.rt_events.specs.declared.outcome.Outcome.TheVariants as told
use Rattle.rt_model.specs.declared.setup.Setup.{Setup}
use Rattle.rt_repair.specs.RepairSteps.{Steps as RepairSteps}
use Rattle.rt_repair.specs.IsRepair.{IsRepair}
use Rattle.rt_repair.specs.IsRetire.{IsRetire}
use Rattle.rt_repair.specs.Repairing.{IsUnended as repair_unended}
use Rattle.rt_repair.specs.Retirement.{IsUnended as retire_unended}
use Rattle.rt_model.specs.Starting.{Starting}
use Rattle.rt_model.specs.declared.node.Seen.{Seen}
use Rattle.rt_repair.specs.Repairing.{Repairing, is_ended, beginning as repair_beginning}
use Rattle.rt_repair.specs.RetireSteps.{Steps as RetireSteps}
use Rattle.rt_repair.specs.Retirement.{Retirement, beginning as retire_beginning, is_ended as retire_is_ended}
use Rattle.rt_repair.specs.declared.repair_step.RepairStep.{RepairStep}
use Rattle.rt_repair.specs.declared.retiring.RetireStep.{RetireStep}
use Rattle.rt_store.specs.Meaning.{Told}
use Rattle.rt_store.specs.Memory.{means}
use Rattle.rt_nodes.specs.declared.chore.Chore.{Chore}
use Rattle.rt_nodes.specs.declared.chore.Chore.TheVariants.{Repair, Retire}
use Rattle.rt_nodes.specs.declared.controller_node.ControllerNode.{ControllerNode}
use Rattle.rt_nodes.specs.declared.upkeep.Upkeep.{Upkeep}

abbrev pub begun : Setup → Partition → Option Repairing → Repairing
begun setup p None = repair_beginning p setup
begun setup p (Some r) = r

-- a repair that ended is no more under way
abbrev pub going_on : Repairing → Option Repairing
going_on r = if is_ended r.stage then None else Some r

abbrev pub UpkeepRepairs : Setup → Partition → Moment → Told → Told → Upkeep → Upkeep → RepairStep → Type 0
UpkeepRepairs setup p now before after old new did =
    (r : Repairing) × RepairSteps {E = Unit {0}} (means before) (means after) (begun setup p old.repair) now r (Ok did)
    × (new ≡ record old { repair = going_on r })

abbrev pub retiring : Setup → Partition → Option Retirement → Retirement
retiring setup p None = retire_beginning p (unwrap_or setup.retention 0)
retiring setup p (Some r) = r

abbrev pub retiring_on : Retirement → Option Retirement
retiring_on r = if retire_is_ended r.stage then None else Some r

abbrev pub UpkeepRetires : Setup → Partition → Moment → Told → Told → Upkeep → Upkeep → RetireStep → Type 0
UpkeepRetires setup p now before after old new did =
    (r : Retirement) × RetireSteps {E = Unit {0}} (means before) (means after) (retiring setup p old.retirement) now r (Ok did)
    × (new ≡ record old { retirement = retiring_on r })

-- the next step of what is done for a partition, and what it tells
abbrev pub UpkeepSteps : Chore → Setup → Partition → Moment → Told → Told → Upkeep → Upkeep → Outcome → Type 0
UpkeepSteps Repair setup p now before after old new outcome =
    (did : RepairStep) × UpkeepRepairs setup p now before after old new did × (outcome ≡ told.Repaired did)
UpkeepSteps Retire setup p now before after old new outcome =
    (did : RetireStep) × UpkeepRetires setup p now before after old new did × (outcome ≡ told.Retired did)

abbrev pub NodeKeepsAt : Option Upkeep → Chore → Setup → Partition → Moment → Told → Told → ControllerNode → ControllerNode → Outcome → Type 0
NodeKeepsAt None chore setup p now before after old new outcome = ⊥
NodeKeepsAt (Some u) chore setup p now before after old new outcome =
    (v : Upkeep) × UpkeepSteps chore setup p now before after u v outcome × (new ≡ record old { upkeep = slice_set old.upkeep p.0 v })

-- a controller's step of what it does for a partition
abbrev pub NodeKeeps : Chore → Setup → Partition → Moment → Told → Told → ControllerNode → ControllerNode → Outcome → Type 0
NodeKeeps chore setup p now before after old new outcome = NodeKeepsAt (slice_get old.upkeep p.0) chore setup p now before after old new outcome

-- what is to step is ready, and hasn't ended
abbrev pub IsReadyRepair : List Seen → Repairing → Type 0
IsReadyRepair seen r = repair_unended r.stage × ((s : Starting) × IsRepair s seen r)

abbrev pub IsReadyRetirement : List Seen → Retirement → Type 0
IsReadyRetirement seen r = retire_unended r.stage × ((s : Starting) × IsRetire s seen r)

-- a retirement begins only where a retention is set
abbrev pub IsReadyFor : Chore → Setup → List Seen → Partition → Upkeep → Type 0
IsReadyFor Repair setup seen p u = IsReadyRepair seen (begun setup p u.repair)
IsReadyFor Retire setup seen p u = (IsNone u.retirement → IsSome setup.retention) × IsReadyRetirement seen (retiring setup p u.retirement)
