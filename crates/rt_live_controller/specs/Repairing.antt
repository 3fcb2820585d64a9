-- The repairer: the repair that is under way, its caller, and all that it did.
use Rattle.std.specs.Prelude.{◌≡◌, ℕ, ◌<◌, Bool, true, List, length, Option, Some, None, IfSome}
use Rattle.rt_ground.specs.StoreCalls.{seen_by}
use Rattle.rt_live_names.specs.Fronts.{Fronts, own_writes}
use Rattle.rt_live_names.specs.Names.{Names}
use Rattle.rt_live_names.specs.OtherParts.{IsRepairerPart}
use Rattle.rt_live_names.specs.Replays.{Replays}
use Rattle.rt_live_names.specs.Showed.{Showed, Shown, shown_by}
use Rattle.rt_model.specs.Lawful.{IsLawfulHistory}
use Rattle.rt_model.specs.Setup.{IsSetup}
use Rattle.rt_model.specs.Starting.{Starting}
use Rattle.rt_model.specs.declared.setup.Setup.{Setup}
use Rattle.rt_repair.specs.IsRepair.{IsRepair}
use Rattle.rt_repair.specs.RepairSteps.{Steps}
use Rattle.rt_repair.specs.Repairing.{Repairing, beginning, is_ended}
use Rattle.rt_store.specs.Contents.{starting_of}
use Rattle.rt_store.specs.Meaning.{Meaning}
use Rattle.rt_live_controller.specs.declared.repairer_did.RepairerDid.{RepairerDid}
use Rattle.rt_live_controller.specs.declared.repairer_did.RepairerDid.TheVariants.{Began, Stepped}

-- what is replayed: the repair, how much its front showed it of the store, and how much of that was its own
pub record RepairerNow : Type 0 where
  pub repair : Option Repairing
  pub told : ℕ
  pub wrote : ℕ

abbrev pub first_repairer : RepairerNow
first_repairer = record { repair = None; told = 0; wrote = 0 }

-- whether no repair is under way
abbrev pub is_free : Option Repairing → Bool
is_free None = true
is_free (Some r) = is_ended r.stage

-- a step of a repair over what the store meant before it and after it, as it showed then
pub record StepsSo (s : Starting) (shown : Shown) (a b : RepairerNow)
    (Step : Meaning → Meaning → Repairing → Repairing → Type 0) : Type 0 where
  pub old : Repairing
  pub new : Repairing
  pub was_repair : a.repair ≡ Some old
  pub is_repair : b.repair ≡ Some new
  pub before : Meaning
  pub after : Meaning
  pub was : Showed s shown a.told a.wrote before
  pub is : Showed s shown b.told b.wrote after
  pub step : Step before after old new

abbrev pub RepairerStep : Setup → Shown → RepairerNow → RepairerDid → RepairerNow → Type 0
RepairerStep setup shown a (Began partition) b =
    (partition.0 < setup.partitions) × (is_free a.repair ≡ true)
    × (b ≡ record a { repair = Some (beginning partition setup) })
RepairerStep setup shown a (Stepped now result told) b =
    (b.told ≡ told)
    × StepsSo (starting_of setup) shown a b (λ before after old new. Steps before after old now new result)

pub record RepairerActs : Type 0 where
  pub repair : Option Repairing
  pub fronts : Fronts
  pub did : List RepairerDid

-- what it is at the end of its replay
abbrev pub repairer_now : RepairerActs → RepairerNow
repairer_now a = record { repair = a.repair; told = length a.fronts.store.seen; wrote = length (own_writes a.fronts) }

abbrev pub shown_to : Names → RepairerActs → Shown
shown_to n a = shown_by (starting_of n.setup) a.fronts.store

pub record IsMending (n : Names) (a : RepairerActs) : Type 0 where
  pub part : IsRepairerPart n a.fronts
  pub lawful : IsLawfulHistory (starting_of n.setup) (seen_by (starting_of n.setup) a.fronts.store)
  -- what its repair remembers it saw
  pub repair : IfSome a.repair (IsRepair (starting_of n.setup) (seen_by (starting_of n.setup) a.fronts.store))
  pub replays : Replays (RepairerStep n.setup (shown_to n a)) first_repairer a.did (repairer_now a)

-- it is of this ground, and knows the setup
pub record IsMendingOf (n : Names) (s : Starting) (setup : Setup) (a : RepairerActs) : Type 0 where
  pub starting : starting_of n.setup ≡ s
  pub knows : setup ≡ n.setup
  pub valid : IsSetup setup
  pub is : IsMending n a

-- ---- when it has ended

abbrev pub IsRepairerEnded : Names → Fronts → Option Repairing → List RepairerDid → Type 0
IsRepairerEnded n f repair did = IsMending n (record { repair = repair; fronts = f; did = did })
