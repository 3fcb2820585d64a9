-- Over a store that tells everything a step is one.
use Rattle.std.proofs.Common.{◌≡◌, ℕ, inl, inr, Bool, List, Option, Some, None, Result, Err, refl, sym, ◌∙◌, ap}
use Rattle.rt_base.specs.declared.numbers.Moment.{Moment}
use Rattle.rt_base.specs.declared.numbers.Sequence.{Sequence}
use Rattle.rt_model.specs.declared.decision.Decision.{Decision}
use Rattle.rt_model.specs.declared.decision.Decision.TheVariants as decision
use Rattle.rt_model.specs.declared.node.Key.TheVariants as key
use Rattle.rt_model.specs.declared.node.Seen.{Seen}
use Rattle.rt_model.specs.Lawful.{Write}
use Rattle.rt_store.specs.declared.refused.StoreRefused.{StoreRefused}
use Rattle.rt_store.specs.declared.refused.StoreRefused.TheVariants.{Memory}
use Rattle.rt_store.specs.Answers.{reading, listing, answer_of, after_call}
use Rattle.rt_store.specs.Calls.{Calls, IsExact, answer_on, told_on}
use Rattle.rt_store.specs.Meaning.{Told, Meaning}
use Rattle.rt_store.specs.Memory.{means}
use Rattle.rt_store.proofs.Seeing.{told_exact}
use Rattle.rt_repair.specs.declared.read_node.ReadNode.{ReadNode}
use Rattle.rt_repair.specs.declared.repair.RepairStage.{RepairStage}
use Rattle.rt_repair.specs.declared.repair.RepairStage.TheVariants as repair
use Rattle.rt_repair.specs.declared.repair_step.RepairStep.{RepairStep}
use Rattle.rt_repair.specs.declared.repair_step.RepairStep.TheVariants as repair_step
use Rattle.rt_repair.specs.declared.retirement.RetireStage.{RetireStage}
use Rattle.rt_repair.specs.declared.retirement.RetireStage.TheVariants as retirement
use Rattle.rt_repair.specs.declared.retiring.RetireStep.{RetireStep}
use Rattle.rt_repair.specs.declared.retiring.RetireStep.TheVariants as retire_step
use Rattle.rt_repair.specs.declared.retiring.Retiring.{Retiring}
use Rattle.rt_repair.specs.declared.retiring.Retiring.TheVariants as retiring
use Rattle.rt_repair.specs.Repairing.{Repairing, goes, decision_at, create_write, ideal_write, abandon_write}
use Rattle.rt_repair.specs.RepairSteps as of_repair
use Rattle.rt_repair.specs.Retirement.{Retirement, retiring_at, remove_write, delete_write}
use Rattle.rt_repair.specs.Retirement as retirements
use Rattle.rt_repair.specs.RetireSteps as of_retire
use Rattle.rt_repair.specs.Told.{IsLeft, repair_ended, repair_set, repair_done, repair_at, repair_stepped, retire_ended, retire_deleted, retire_done, retire_at, retire_stepped}

abbrev whole : Told → Option Told
whole t = Some t

same_told : (t u : Told) → whole u ≡ whole t → u ≡ t
same_told t u e = cc

same_means : (t u : Told) → means u ≡ means t → u ≡ t
same_means t u e = same_told t u (ap (λ (m : Meaning). m.told) e)

not_none : {Y : Type 0} (o : Option Y) (y : Y) → o ≡ None → o ≡ Some y → ⊥
not_none o y e f = absurd (cc)

-- an answer that was told as something is the one answer
answered :
    {X Y : Type 0} (t u : Told) (answer : List Seen → Result X StoreRefused) (after : List Seen → List Seen)
    (result : Result X StoreRefused) (go : Result X StoreRefused → Option Y) (y : Y) → go (Err Memory) ≡ None
    → Calls (means t) (means u) answer after result → go result ≡ Some y
    → (u ≡ told_on t after) × (go (answer_on t answer) ≡ Some y)
answered t u answer after result go y none c e = by_cases (told_exact t u answer after result c)
  where
    by_cases : IsExact t u answer after result → (u ≡ told_on t after) × (go (answer_on t answer) ≡ Some y)
    by_cases (inl x) = absurd (not_none (go result) y (ap go x.0 ∙ none) e)
    by_cases (inr x) = (x.1, ap go (sym x.0) ∙ e)

pub out_alone : (t u : Told) → of_repair.RanOut (means t) (means u) → u ≡ t
out_alone t u (inl e) = same_means t u e
out_alone t u (inr (base, sees, stays)) = same_told t u stays.told

-- ---- a repair

ended_repair :
    (r : Repairing) (x : of_repair.Stepped) (o : Option RepairStep) → x.repair ≡ goes r repair.Ended → o ≡ Some x.step
    → repair_ended r o ≡ Some x
ended_repair r x o e f =
    let at : of_repair.Stepped → Option of_repair.Stepped = λ y. Some y in
    ap (repair_ended r) f ∙ ap (λ (a : Repairing). at (record { repair = a; step = x.step })) (sym e)

told_set :
    (t u : Told) (r : Repairing) (x : of_repair.Stepped) (tell : Result ℕ StoreRefused → Option RepairStep) (call : Option Write)
    → tell (Err Memory) ≡ None → x.repair ≡ goes r repair.Ended → of_repair.Sets (means t) (means u) tell call x.step
    → IsLeft u x (repair_set t r tell call)
told_set t u r x tell None none e s =
    (same_means t u s.0, ended_repair r x (Some repair_step.Nothing) e (ap (λ (d : RepairStep). Some d) (sym s.1)))
told_set t u r x tell (Some call) none e (answer, c, f) =
    let a = answered t u (answer_of (λ w. w.version) call) (after_call call) answer tell x.step none c f in
    (a.0, ended_repair r x _ e a.1)

told_does :
    (t u : Told) (r : Repairing) (now : Moment) (last : Option ReadNode) (follows : Bool) (ideal : Seen) (x : of_repair.Stepped)
    (d : Decision) → x.repair ≡ goes r repair.Ended → of_repair.Does (means t) (means u) r now last follows ideal x.step d
    → IsLeft u x (repair_done t r now last follows ideal d)
told_does t u r now last follows ideal x decision.Nothing e s =
    (same_means t u s.0, ended_repair r x (Some repair_step.Nothing) e (ap (λ (d : RepairStep). Some d) (sym s.1)))
told_does t u r now last follows ideal x (decision.Create s o) e (answer, c, f) =
    let call = create_write r now s o last in
    let a = answered t u (answer_of (λ w. tt) call) (after_call call) answer (of_repair.created s last) x.step refl c f in
    (a.0, ended_repair r x _ e a.1)
told_does t u r now last follows ideal x (decision.AddToIdeal s) e sets =
    told_set t u r x of_repair.ideal_set (ideal_write r s follows ideal) refl e sets
told_does t u r now last follows ideal x (decision.Abandon s) e sets =
    told_set t u r x (of_repair.abandoned s) (abandon_write now last) refl e sets

told_at :
    (t u : Told) (r : Repairing) (now : Moment) (x : of_repair.Stepped) (stage : RepairStage)
    → of_repair.StepsAt (means t) (means u) r now x stage → IsLeft u x (repair_at t r now stage)
told_at t u r now x repair.Listing (answer, c, e) =
    answered t u (listing r.partition) (λ base. base) answer (of_repair.after_list r) x refl c e
told_at t u r now x (repair.Reading last follows) (answer, c, e) =
    answered t u (reading key.Ideal) (λ base. base) answer (of_repair.after_read r) x refl c e
told_at t u r now x (repair.Writing last follows ideal) (e, does) =
    told_does t u r now last follows ideal x (decision_at r now last ideal) e does
told_at t u r now x repair.Ended steps = absurd steps

pub told_repair :
    (t u : Told) (r : Repairing) (now : Moment) (x : of_repair.Stepped)
    → of_repair.StepsAt (means t) (means u) r now x r.stage → IsLeft u x (repair_stepped t r now)
told_repair t u r now x s = told_at t u r now x r.stage s

-- ---- a retirement

ended_retire :
    (r : Retirement) (x : of_retire.Stepped) (o : Option RetireStep) → x.retire ≡ retirements.goes r retirement.Ended
    → o ≡ Some x.step → retire_ended r o ≡ Some x
ended_retire r x o e f =
    let at : of_retire.Stepped → Option of_retire.Stepped = λ y. Some y in
    ap (retire_ended r) f ∙ ap (λ (a : Retirement). at (record { retire = a; step = x.step })) (sym e)

told_deletes :
    (t u : Told) (r : Retirement) (x : of_retire.Stepped) (s : Sequence) (call : Option Write)
    → x.retire ≡ retirements.goes r retirement.Ended → of_retire.Deletes (means t) (means u) s call x.step
    → IsLeft u x (retire_deleted t r (of_retire.deleted s) call)
told_deletes t u r x s None e d =
    (same_means t u d.0, ended_retire r x (Some retire_step.Nothing) e (ap (λ (y : RetireStep). Some y) (sym d.1)))
told_deletes t u r x s (Some call) e (answer, c, f) =
    let a = answered t u (answer_of (λ w. tt) call) (after_call call) answer (of_retire.deleted s) x.step refl c f in
    (a.0, ended_retire r x _ e a.1)

told_retires :
    (t u : Told) (r : Retirement) (lowest : Option ReadNode) (ideal : Seen) (x : of_retire.Stepped) (d : Retiring)
    → x.retire ≡ retirements.goes r retirement.Ended → of_retire.Does (means t) (means u) r lowest ideal x.step d
    → IsLeft u x (retire_done t r lowest ideal d)
told_retires t u r lowest ideal x retiring.Nothing e d =
    (same_means t u d.0, ended_retire r x (Some retire_step.Nothing) e (ap (λ (y : RetireStep). Some y) (sym d.1)))
told_retires t u r lowest ideal x (retiring.Remove s) e (answer, c, f) =
    let call = remove_write r s ideal in
    let a = answered t u (answer_of (λ w. w.version) call) (after_call call) answer (of_retire.removed s) x.step refl c f in
    (a.0, ended_retire r x _ e a.1)
told_retires t u r lowest ideal x (retiring.Delete s) e d = told_deletes t u r x s (delete_write lowest) e d

told_retire_at :
    (t u : Told) (r : Retirement) (now : Moment) (x : of_retire.Stepped) (stage : RetireStage)
    → of_retire.StepsAt (means t) (means u) r now x stage → IsLeft u x (retire_at t r now stage)
told_retire_at t u r now x retirement.Listing (answer, c, e) =
    answered t u (listing r.partition) (λ base. base) answer (of_retire.after_list r) x refl c e
told_retire_at t u r now x (retirement.Reading lowest) (answer, c, e) =
    answered t u (reading key.Ideal) (λ base. base) answer (of_retire.after_read r) x refl c e
told_retire_at t u r now x (retirement.Writing lowest ideal) (e, does) =
    told_retires t u r lowest ideal x (retiring_at r now lowest ideal) e does
told_retire_at t u r now x retirement.Ended steps = absurd steps

pub told_retire :
    (t u : Told) (r : Retirement) (now : Moment) (x : of_retire.Stepped)
    → of_retire.StepsAt (means t) (means u) r now x r.stage → IsLeft u x (retire_stepped t r now)
told_retire t u r now x s = told_retire_at t u r now x r.stage s
