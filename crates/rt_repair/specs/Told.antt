-- A step over a store that tells everything.
use Rattle.std.specs.Prelude.{◌≡◌, ℕ, Bool, Option, Some, None, Result}
use Rattle.rt_base.specs.declared.numbers.Moment.{Moment}
use Rattle.rt_model.specs.declared.decision.Decision.{Decision}
use Rattle.rt_model.specs.declared.decision.Decision.TheVariants as decision
use Rattle.rt_model.specs.declared.node.Key.TheVariants as key
use Rattle.rt_model.specs.declared.node.Seen.{Seen}
use Rattle.rt_model.specs.Lawful.{Write}
use Rattle.rt_store.specs.declared.refused.StoreRefused.{StoreRefused}
use Rattle.rt_store.specs.Answers.{reading, listing, answer_of, after_call}
use Rattle.rt_store.specs.Calls.{answer_on, told_on}
use Rattle.rt_store.specs.Meaning.{Told}
use Rattle.rt_repair.specs.declared.read_node.ReadNode.{ReadNode}
use Rattle.rt_repair.specs.declared.repair.RepairStage.{RepairStage}
use Rattle.rt_repair.specs.declared.repair.RepairStage.TheVariants as repair
use Rattle.rt_repair.specs.declared.repair_step.RepairStep.{RepairStep}
use Rattle.rt_repair.specs.declared.repair_step.RepairStep.TheVariants as repair_step
use Rattle.rt_repair.specs.declared.retirement.RetireStage.{RetireStage}
use Rattle.rt_repair.specs.declared.retirement.RetireStage.TheVariants as retirement
use Rattle.rt_repair.specs.declared.retiring.RetireStep.{RetireStep}
use Rattle.rt_repair.specs.declared.retiring.RetireStep.TheVariants as retire_step
use Rattle.rt_repair.specs.declared.retiring.Retiring.{Retiring}
use Rattle.rt_repair.specs.declared.retiring.Retiring.TheVariants as retiring
use Rattle.rt_repair.specs.Repairing.{Repairing, goes, decision_at, create_write, ideal_write, abandon_write}
use Rattle.rt_repair.specs.RepairSteps as of_repair
use Rattle.rt_repair.specs.Retirement.{Retirement, retiring_at, remove_write, delete_write}
use Rattle.rt_repair.specs.Retirement as retirements
use Rattle.rt_repair.specs.RetireSteps as of_retire

-- what is told after a step, and what the step gave, if it gave something
pub record Left (X : Type 0) : Type 0 where
  pub told : Told
  pub stepped : Option X

abbrev pub IsLeft : {X : Type 0} → Told → X → Left X → Type 0
IsLeft told x left = (told ≡ left.told) × (left.stepped ≡ Some x)

-- ---- a repair

abbrev pub repair_ended : Repairing → Option RepairStep → Option of_repair.Stepped
repair_ended r None = None
repair_ended r (Some did) = Some (record { repair = goes r repair.Ended; step = did })

abbrev pub repair_set : Told → Repairing → (Result ℕ StoreRefused → Option RepairStep) → Option Write → Left of_repair.Stepped
repair_set t r tell None = record { told = t; stepped = repair_ended r (Some repair_step.Nothing) }
repair_set t r tell (Some call) =
    record {
      told = told_on t (after_call call);
      stepped = repair_ended r (tell (answer_on t (answer_of (λ w. w.version) call)));
    }

abbrev pub repair_done : Told → Repairing → Moment → Option ReadNode → Bool → Seen → Decision → Left of_repair.Stepped
repair_done t r now last follows ideal decision.Nothing =
    record { told = t; stepped = repair_ended r (Some repair_step.Nothing) }
repair_done t r now last follows ideal (decision.Create s start) =
    let call = create_write r now s start last in
    record {
      told = told_on t (after_call call);
      stepped = repair_ended r (of_repair.created s last (answer_on t (answer_of (λ w. tt) call)));
    }
repair_done t r now last follows ideal (decision.AddToIdeal s) =
    repair_set t r of_repair.ideal_set (ideal_write r s follows ideal)
repair_done t r now last follows ideal (decision.Abandon s) =
    repair_set t r (of_repair.abandoned s) (abandon_write now last)

abbrev pub repair_at : Told → Repairing → Moment → RepairStage → Left of_repair.Stepped
repair_at t r now repair.Listing =
    record { told = told_on t (λ base. base); stepped = of_repair.after_list r (answer_on t (listing r.partition)) }
repair_at t r now (repair.Reading last follows) =
    record { told = told_on t (λ base. base); stepped = of_repair.after_read r (answer_on t (reading key.Ideal)) }
repair_at t r now (repair.Writing last follows ideal) =
    repair_done t r now last follows ideal (decision_at r now last ideal)
repair_at t r now repair.Ended = record { told = t; stepped = None }

-- the step of a repair
abbrev pub repair_stepped : Told → Repairing → Moment → Left of_repair.Stepped
repair_stepped t r now = repair_at t r now r.stage

-- ---- a retirement

abbrev pub retire_ended : Retirement → Option RetireStep → Option of_retire.Stepped
retire_ended r None = None
retire_ended r (Some did) = Some (record { retire = retirements.goes r retirement.Ended; step = did })

abbrev pub retire_deleted :
    Told → Retirement → (Result (Unit {0}) StoreRefused → Option RetireStep) → Option Write → Left of_retire.Stepped
retire_deleted t r tell None = record { told = t; stepped = retire_ended r (Some retire_step.Nothing) }
retire_deleted t r tell (Some call) =
    record {
      told = told_on t (after_call call);
      stepped = retire_ended r (tell (answer_on t (answer_of (λ w. tt) call)));
    }

abbrev pub retire_done : Told → Retirement → Option ReadNode → Seen → Retiring → Left of_retire.Stepped
retire_done t r lowest ideal retiring.Nothing =
    record { told = t; stepped = retire_ended r (Some retire_step.Nothing) }
retire_done t r lowest ideal (retiring.Remove s) =
    let call = remove_write r s ideal in
    record {
      told = told_on t (after_call call);
      stepped = retire_ended r (of_retire.removed s (answer_on t (answer_of (λ w. w.version) call)));
    }
retire_done t r lowest ideal (retiring.Delete s) = retire_deleted t r (of_retire.deleted s) (delete_write lowest)

abbrev pub retire_at : Told → Retirement → Moment → RetireStage → Left of_retire.Stepped
retire_at t r now retirement.Listing =
    record { told = told_on t (λ base. base); stepped = of_retire.after_list r (answer_on t (listing r.partition)) }
retire_at t r now (retirement.Reading lowest) =
    record { told = told_on t (λ base. base); stepped = of_retire.after_read r (answer_on t (reading key.Ideal)) }
retire_at t r now (retirement.Writing lowest ideal) = retire_done t r lowest ideal (retiring_at r now lowest ideal)
retire_at t r now retirement.Ended = record { told = t; stepped = None }

-- the step of a retirement
abbrev pub retire_stepped : Told → Retirement → Moment → Left of_retire.Stepped
retire_stepped t r now = retire_at t r now r.stage
