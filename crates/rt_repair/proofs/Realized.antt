-- What a told step gives is one that its store could give.
use Rattle.std.proofs.Common.{◌≡◌, ℕ, Bool, Option, Some, None, Result, Err, refl, sym, ap}
use Rattle.std.proofs.lemmas.Option.{none-some, same_Some}
use Rattle.rt_base.specs.declared.numbers.Moment.{Moment}
use Rattle.rt_base.specs.declared.numbers.Sequence.{Sequence}
use Rattle.rt_model.specs.declared.decision.Decision.{Decision}
use Rattle.rt_model.specs.declared.decision.Decision.TheVariants as decision
use Rattle.rt_model.specs.declared.node.Key.TheVariants as key
use Rattle.rt_model.specs.declared.node.Seen.{Seen}
use Rattle.rt_model.specs.Lawful.{Write}
use Rattle.rt_store.specs.declared.refused.StoreRefused.{StoreRefused}
use Rattle.rt_store.specs.declared.refused.StoreRefused.TheVariants.{Memory}
use Rattle.rt_store.specs.Answers.{reading, listing, answer_of, after_call}
use Rattle.rt_store.specs.Calls.{answer_on}
use Rattle.rt_store.specs.Meaning.{Told}
use Rattle.rt_store.specs.Memory.{means}
use Rattle.rt_store.proofs.Realized.{calls_told}
use Rattle.rt_repair.specs.declared.read_node.ReadNode.{ReadNode}
use Rattle.rt_repair.specs.declared.repair.RepairStage.{RepairStage}
use Rattle.rt_repair.specs.declared.repair.RepairStage.TheVariants as repair
use Rattle.rt_repair.specs.declared.repair_step.RepairStep.{RepairStep}
use Rattle.rt_repair.specs.declared.repair_step.RepairStep.TheVariants as repair_step
use Rattle.rt_repair.specs.declared.retirement.RetireStage.{RetireStage}
use Rattle.rt_repair.specs.declared.retirement.RetireStage.TheVariants as retirement
use Rattle.rt_repair.specs.declared.retiring.RetireStep.{RetireStep}
use Rattle.rt_repair.specs.declared.retiring.RetireStep.TheVariants as retire_step
use Rattle.rt_repair.specs.declared.retiring.Retiring.{Retiring}
use Rattle.rt_repair.specs.declared.retiring.Retiring.TheVariants as retiring
use Rattle.rt_repair.specs.Repairing.{Repairing, goes, decision_at, create_write, ideal_write, abandon_write}
use Rattle.rt_repair.specs.RepairSteps as of_repair
use Rattle.rt_repair.specs.Retirement.{Retirement, retiring_at, remove_write, delete_write}
use Rattle.rt_repair.specs.Retirement as retirements
use Rattle.rt_repair.specs.RetireSteps as of_retire
use Rattle.rt_repair.specs.Told.{repair_ended, repair_set, repair_done, repair_at, retire_ended, retire_deleted, retire_done, retire_at}

-- ---- a repair

abbrev repaired : Repairing → RepairStep → of_repair.Stepped
repaired r did = record { repair = goes r repair.Ended; step = did }

pub record EndsRepair (r : Repairing) (o : Option RepairStep) (x : of_repair.Stepped) : Type 0 where
  pub ended : x.repair ≡ goes r repair.Ended
  pub told : o ≡ Some x.step

ended_repair : (r : Repairing) (o : Option RepairStep) (x : of_repair.Stepped) → repair_ended r o ≡ Some x → EndsRepair r o x
ended_repair r None x e = absurd (none-some x e)
ended_repair r (Some did) x e =
    let same : repaired r did ≡ x = same_Some (repaired r did) x e in
    record {
      ended = ap (λ (y : of_repair.Stepped). y.repair) (sym same);
      told = ap (λ (y : of_repair.Stepped). Some y.step) same;
    }

did_nothing : (r : Repairing) (x : of_repair.Stepped) → EndsRepair r (Some repair_step.Nothing) x → x.step ≡ repair_step.Nothing
did_nothing r x k = sym (same_Some repair_step.Nothing x.step k.told)

set_told : (t : Told) (r : Repairing) (tell : Result ℕ StoreRefused → Option RepairStep) (call : Option Write) (x : of_repair.Stepped)
    → tell (Err Memory) ≡ None → (repair_set t r tell call).stepped ≡ Some x
    → (x.repair ≡ goes r repair.Ended) × of_repair.Sets (means t) (means (repair_set t r tell call).told) tell call x.step
set_told t r tell None x none e =
    let k = ended_repair r (Some repair_step.Nothing) x e in (k.ended, (refl, did_nothing r x k))
set_told t r tell (Some call) x none e =
    let k = ended_repair r (tell (answer_on t (answer_of (λ w. w.version) call))) x e in (
      k.ended,
      (
        answer_on t (answer_of (λ w. w.version) call),
        calls_told t (answer_of (λ w. w.version) call) (after_call call) tell x.step none k.told,
        k.told,
      ),
    )

does_told : (t : Told) (r : Repairing) (now : Moment) (last : Option ReadNode) (follows : Bool) (ideal : Seen) (d : Decision)
    (x : of_repair.Stepped) → (repair_done t r now last follows ideal d).stepped ≡ Some x
    → (x.repair ≡ goes r repair.Ended)
    × of_repair.Does (means t) (means (repair_done t r now last follows ideal d).told) r now last follows ideal x.step d
does_told t r now last follows ideal decision.Nothing x e =
    let k = ended_repair r (Some repair_step.Nothing) x e in (k.ended, (refl, did_nothing r x k))
does_told t r now last follows ideal (decision.Create s start) x e =
    let call = create_write r now s start last in
    let k = ended_repair r (of_repair.created s last (answer_on t (answer_of (λ w. tt) call))) x e in (
      k.ended,
      (
        answer_on t (answer_of (λ w. tt) call),
        calls_told t (answer_of (λ w. tt) call) (after_call call) (of_repair.created s last) x.step refl k.told,
        k.told,
      ),
    )
does_told t r now last follows ideal (decision.AddToIdeal s) x e = set_told t r of_repair.ideal_set (ideal_write r s follows ideal) x refl e
does_told t r now last follows ideal (decision.Abandon s) x e = set_told t r (of_repair.abandoned s) (abandon_write now last) x refl e

pub steps_told : (t : Told) (r : Repairing) (now : Moment) (x : of_repair.Stepped) (stage : RepairStage)
    → (repair_at t r now stage).stepped ≡ Some x → of_repair.StepsAt (means t) (means (repair_at t r now stage).told) r now x stage
steps_told t r now x repair.Listing e =
    (answer_on t (listing r.partition), calls_told t (listing r.partition) (λ base. base) (of_repair.after_list r) x refl e, e)
steps_told t r now x (repair.Reading last follows) e =
    (answer_on t (reading key.Ideal), calls_told t (reading key.Ideal) (λ base. base) (of_repair.after_read r) x refl e, e)
steps_told t r now x (repair.Writing last follows ideal) e =
    does_told t r now last follows ideal (decision_at r now last ideal) x e
steps_told t r now x repair.Ended e = none-some x e

-- ---- a retirement

abbrev retired : Retirement → RetireStep → of_retire.Stepped
retired r did = record { retire = retirements.goes r retirement.Ended; step = did }

pub record EndsRetire (r : Retirement) (o : Option RetireStep) (x : of_retire.Stepped) : Type 0 where
  pub ended : x.retire ≡ retirements.goes r retirement.Ended
  pub told : o ≡ Some x.step

ended_retire : (r : Retirement) (o : Option RetireStep) (x : of_retire.Stepped) → retire_ended r o ≡ Some x → EndsRetire r o x
ended_retire r None x e = absurd (none-some x e)
ended_retire r (Some did) x e =
    let same : retired r did ≡ x = same_Some (retired r did) x e in
    record {
      ended = ap (λ (y : of_retire.Stepped). y.retire) (sym same);
      told = ap (λ (y : of_retire.Stepped). Some y.step) same;
    }

retired_nothing : (r : Retirement) (x : of_retire.Stepped) → EndsRetire r (Some retire_step.Nothing) x → x.step ≡ retire_step.Nothing
retired_nothing r x k = sym (same_Some retire_step.Nothing x.step k.told)

deleted_told : (t : Told) (r : Retirement) (s : Sequence) (call : Option Write) (x : of_retire.Stepped)
    → (retire_deleted t r (of_retire.deleted s) call).stepped ≡ Some x
    → (x.retire ≡ retirements.goes r retirement.Ended)
    × of_retire.Deletes (means t) (means (retire_deleted t r (of_retire.deleted s) call).told) s call x.step
deleted_told t r s None x e =
    let k = ended_retire r (Some retire_step.Nothing) x e in (k.ended, (refl, retired_nothing r x k))
deleted_told t r s (Some call) x e =
    let k = ended_retire r (of_retire.deleted s (answer_on t (answer_of (λ w. tt) call))) x e in (
      k.ended,
      (
        answer_on t (answer_of (λ w. tt) call),
        calls_told t (answer_of (λ w. tt) call) (after_call call) (of_retire.deleted s) x.step refl k.told,
        k.told,
      ),
    )

retires_told : (t : Told) (r : Retirement) (lowest : Option ReadNode) (ideal : Seen) (d : Retiring) (x : of_retire.Stepped)
    → (retire_done t r lowest ideal d).stepped ≡ Some x
    → (x.retire ≡ retirements.goes r retirement.Ended)
    × of_retire.Does (means t) (means (retire_done t r lowest ideal d).told) r lowest ideal x.step d
retires_told t r lowest ideal retiring.Nothing x e =
    let k = ended_retire r (Some retire_step.Nothing) x e in (k.ended, (refl, retired_nothing r x k))
retires_told t r lowest ideal (retiring.Remove s) x e =
    let call = remove_write r s ideal in
    let k = ended_retire r (of_retire.removed s (answer_on t (answer_of (λ w. w.version) call))) x e in (
      k.ended,
      (
        answer_on t (answer_of (λ w. w.version) call),
        calls_told t (answer_of (λ w. w.version) call) (after_call call) (of_retire.removed s) x.step refl k.told,
        k.told,
      ),
    )
retires_told t r lowest ideal (retiring.Delete s) x e = deleted_told t r s (delete_write lowest) x e

pub retire_steps_told : (t : Told) (r : Retirement) (now : Moment) (x : of_retire.Stepped) (stage : RetireStage)
    → (retire_at t r now stage).stepped ≡ Some x → of_retire.StepsAt (means t) (means (retire_at t r now stage).told) r now x stage
retire_steps_told t r now x retirement.Listing e =
    (answer_on t (listing r.partition), calls_told t (listing r.partition) (λ base. base) (of_retire.after_list r) x refl e, e)
retire_steps_told t r now x (retirement.Reading lowest) e =
    (answer_on t (reading key.Ideal), calls_told t (reading key.Ideal) (λ base. base) (of_retire.after_read r) x refl e, e)
retire_steps_told t r now x (retirement.Writing lowest ideal) e = retires_told t r lowest ideal (retiring_at r now lowest ideal) x e
retire_steps_told t r now x retirement.Ended e = none-some x e
