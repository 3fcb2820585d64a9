-- Repairs that run alone: each from its beginning to its end, over a store that tells everything and plans no fault.
use Rattle.std.specs.Prelude.{◌≡◌, ℕ, zero, suc, ◌⊎◌, Bool, true, false, List, [], ◌∷◌, ◌++◌, Option, Some, None}
use Rattle.rt_base.specs.declared.numbers.Moment.{Moment}
use Rattle.rt_model.specs.declared.node.Listed.{Listed}
use Rattle.rt_model.specs.declared.node.Seen.{Seen}
use Rattle.rt_model.specs.Lawful.{IsLawfulHistory}
use Rattle.rt_model.specs.Repair.{last_listed}
use Rattle.rt_model.specs.Starting.{Starting}
use Rattle.rt_store.specs.Meaning.{Told}
use Rattle.rt_repair.specs.declared.repair.RepairStage.TheVariants.{Ended}
use Rattle.rt_repair.specs.declared.repair_step.RepairStep.{RepairStep}
use Rattle.rt_repair.specs.declared.repair_step.RepairStep.TheVariants as step
use Rattle.rt_repair.specs.Converging.{Standing, standing_of, decided, repaired, writes, IsOver, IsSettled}
use Rattle.rt_repair.specs.Repairing.{Repairing, goes}
use Rattle.rt_repair.specs.RepairSteps.{Stepped}
use Rattle.rt_repair.specs.Told.{Left, repair_stepped}

-- one step more, at this moment, where the step before gave something
abbrev pub stepped_on : Told → Moment → Option Stepped → Left Stepped
stepped_on t now None = record { told = t; stepped = None }
stepped_on t now (Some x) = repair_stepped t x.repair now

abbrev pub then_stepped : Left Stepped → Moment → Left Stepped
then_stepped x now = stepped_on x.told now x.stepped

-- the three steps of a repair, at these moments
abbrev pub run_alone : Told → Repairing → Moment → Moment → Moment → Left Stepped
run_alone t r a b c = then_stepped (then_stepped (repair_stepped t r a) b) c

-- one write came, or none did and the repair found nothing to do
abbrev pub HasWritten : List Seen → List Seen → RepairStep → Bool → Type 0
HasWritten old new did true = (w : Seen) × (new ≡ old ++ w ∷ [])
HasWritten old new did false = (new ≡ old) × (did ≡ step.Nothing)

-- what a repair left that ran alone and did its last step at this moment: it has ended, and what stands of its
-- partition is what its decision makes of what stood
pub record IsRepaired (s : Starting) (t : Told) (r : Repairing) (now : Moment) (left : Left Stepped) : Type 0 where
  pub last : Stepped
  pub gave : left.stepped ≡ Some last
  pub ended : last.repair ≡ goes r Ended
  pub standing : standing_of left.told.writes r.partition ≡ repaired r now (standing_of t.writes r.partition)
  pub written :
      HasWritten t.writes left.told.writes last.step
      (writes r (standing_of t.writes r.partition) (decided r now (standing_of t.writes r.partition)))
  pub lawful : IsLawfulHistory s left.told.writes
  pub faults : left.told.faults ≡ t.faults

-- the grace of the last segment that stands is over
abbrev pub IsOverOf : Repairing → Moment → Standing → Type 0
IsOverOf r now x = (l : Listed) → last_listed x.nodes ≡ Some l → IsOver r now l

-- a repair that ran alone found nothing to do: it wrote nothing and answered Nothing, and what stands is settled
pub record FindsNothing (t : Told) (r : Repairing) (now : Moment) (left : Left Stepped) : Type 0 where
  pub last : Stepped
  pub gave : left.stepped ≡ Some last
  pub nothing : last.step ≡ step.Nothing
  pub unwritten : left.told.writes ≡ t.writes
  pub listed : Listed
  pub is_last : last_listed (standing_of t.writes r.partition).nodes ≡ Some listed
  pub settled : IsSettled r now (standing_of t.writes r.partition) listed

-- repairs run alone, one after another, each of them once the grace of the then last segment is over: after at most so
-- many that write, a repair finds nothing to do
abbrev pub SettlesAlone : Repairing → ℕ → Told → Type 0
SettlesAlone r zero t =
    (a b c : Moment) → IsOverOf r c (standing_of t.writes r.partition) → FindsNothing t r c (run_alone t r a b c)
SettlesAlone r (suc n) t =
    (a b c : Moment) → IsOverOf r c (standing_of t.writes r.partition)
    → FindsNothing t r c (run_alone t r a b c)
    ⊎ (((w : Seen) × ((run_alone t r a b c).told.writes ≡ t.writes ++ w ∷ [])) × SettlesAlone r n (run_alone t r a b c).told)
