-- What a step adds to its caller's own makes no segment Done.
use Rattle.std.proofs.Common.{◌≡◌, ℕ, ◌⊎◌, inl, inr, Bool, true, false, cond, List, [], ◌∷◌, ◌++◌, Option, Some, None, Result, Ok, Err, refl, sym, ◌∙◌, ap, subst}
use Rattle.rt_base.specs.declared.fault.Fault.{Fault}
use Rattle.rt_base.specs.declared.fault.Fault.TheVariants as fault
use Rattle.rt_base.specs.declared.numbers.Moment.{Moment}
use Rattle.rt_base.specs.declared.numbers.Offset.{Offset}
use Rattle.rt_base.specs.declared.numbers.Sequence.{Sequence}
use Rattle.rt_base.specs.Faults.{left_under}
use Rattle.rt_model.specs.declared.decision.Decision.{Decision}
use Rattle.rt_model.specs.declared.decision.Decision.TheVariants as decision
use Rattle.rt_model.specs.declared.node.Node.{Node}
use Rattle.rt_model.specs.declared.node.Node.TheVariants as node
use Rattle.rt_model.specs.declared.node.Seen.{Seen}
use Rattle.rt_model.specs.Entries.{entries_by}
use Rattle.rt_model.specs.Ideal.{goes_on}
use Rattle.rt_model.specs.Lawful.{Write, set, written_by}
use Rattle.rt_model.specs.Metadata.{IsDone}
use Rattle.rt_store.specs.declared.refused.StoreRefused.{StoreRefused}
use Rattle.rt_store.specs.declared.refused.StoreRefused.TheVariants.{NoNode, Exists, VersionChanged, Failed, Memory}
use Rattle.rt_store.specs.Answers.{refusal_of, answer_of, after_by, after_call}
use Rattle.rt_store.specs.Calls.{Calls, Gains, Goes}
use Rattle.rt_store.specs.Meaning.{Own, Meaning}
use Rattle.rt_store.proofs.Owning.{gains_nothing, gains_one}
use Rattle.rt_repair.specs.declared.read_node.ReadNode.{ReadNode}
use Rattle.rt_repair.specs.declared.repair.RepairStage.{RepairStage}
use Rattle.rt_repair.specs.declared.repair.RepairStage.TheVariants as repair
use Rattle.rt_repair.specs.declared.repair_step.RepairStep.{RepairStep}
use Rattle.rt_repair.specs.declared.retirement.RetireStage.{RetireStage}
use Rattle.rt_repair.specs.declared.retirement.RetireStage.TheVariants as retirement
use Rattle.rt_repair.specs.declared.retiring.RetireStep.{RetireStep}
use Rattle.rt_repair.specs.declared.retiring.Retiring.{Retiring}
use Rattle.rt_repair.specs.declared.retiring.Retiring.TheVariants as retiring
use Rattle.rt_repair.specs.Owning.{GainsUndone}
use Rattle.rt_repair.specs.Repairing.{Repairing, added_entries, decision_at, create_write, abandon_by, abandon_write, ideal_write}
use Rattle.rt_repair.specs.RepairSteps.{RanOut}
use Rattle.rt_repair.specs.RepairSteps as of_repair
use Rattle.rt_repair.specs.Retirement.{Retirement, retiring_at, remove_write, delete_write}
use Rattle.rt_repair.specs.RetireSteps as of_retire

-- ---- one call

own_same : (old new : Option Own) → new ≡ old → GainsUndone old new
own_same None new e = e
own_same (Some o) new e = inl e

own_more : (old new : Option Own) (base seen : List Seen) (w : Seen) → Gains old new base seen → (IsDone w.node → ⊥)
    → (seen ≡ base) ⊎ (seen ≡ base ++ w ∷ []) → GainsUndone old new
own_more None new base seen w g undone e = g
own_more (Some o) new base seen w g undone (inl e) = inl (gains_nothing (Some o) new base seen g e)
own_more (Some o) new base seen w g undone (inr e) = inr (w, gains_one o new base seen w g e, undone)

same_left : (f : Fault) (base : List Seen) → left_under f base base ≡ base
same_left fault.Nothing base = refl
same_left fault.Lost base = refl
same_left fault.Kept base = refl

-- a fault, or a refusal, leaves what was there; else there is one write more
one_left : (f : Fault) (refused : Option StoreRefused) (base : List Seen) (w : Seen)
    → (left_under f base (after_by refused base w) ≡ base) ⊎ (left_under f base (after_by refused base w) ≡ base ++ w ∷ [])
one_left fault.Nothing None base w = inr refl
one_left fault.Nothing (Some e) base w = inl refl
one_left fault.Lost refused base w = inl refl
one_left fault.Kept None base w = inr refl
one_left fault.Kept (Some e) base w = inl refl

read_goes : {X : Type 0} (old new : Meaning) (f : Fault) (base : List Seen) (answer result : Result X StoreRefused)
    → Goes old new f base base answer result → new.own ≡ old.own
read_goes old new f base answer result g = gains_nothing old.own new.own base new.seen g.own (g.seen ∙ same_left f base)

read_own : {X : Type 0} (old new : Meaning) (answer : List Seen → Result X StoreRefused) (result : Result X StoreRefused)
    → Calls old new answer (λ base. base) result → new.own ≡ old.own
read_own old new answer (Ok x) c = read_goes old new c.fault c.base (answer c.base) (Ok x) c.goes
read_own old new answer (Err NoNode) c = read_goes old new c.fault c.base (answer c.base) (Err NoNode) c.goes
read_own old new answer (Err (Exists found)) c = read_goes old new c.fault c.base (answer c.base) (Err (Exists found)) c.goes
read_own old new answer (Err (VersionChanged expected found)) c =
    read_goes old new c.fault c.base (answer c.base) (Err (VersionChanged expected found)) c.goes
read_own old new answer (Err Failed) c = read_goes old new c.fault c.base (answer c.base) (Err Failed) c.goes
read_own old new answer (Err Memory) c = c.goes.own

write_goes : {X : Type 0} (old new : Meaning) (f : Fault) (base : List Seen) (call : Write) (answer result : Result X StoreRefused)
    → (IsDone (written_by base call).node → ⊥) → Goes old new f base (after_call call base) answer result → GainsUndone old.own new.own
write_goes old new f base call answer result undone g =
    let w = written_by base call in
    let S : List Seen → Type 0 = λ seen. (seen ≡ base) ⊎ (seen ≡ base ++ w ∷ []) in
    own_more old.own new.own base new.seen w g.own undone (subst S (sym g.seen) (one_left f (refusal_of base call) base w))

write_own : {X : Type 0} (tell : Seen → X) (old new : Meaning) (call : Write) (result : Result X StoreRefused)
    → ((base : List Seen) → IsDone (written_by base call).node → ⊥) → Calls old new (answer_of tell call) (after_call call) result
    → GainsUndone old.own new.own
write_own tell old new call (Ok x) undone c = write_goes old new c.fault c.base call (answer_of tell call c.base) (Ok x) (undone c.base) c.goes
write_own tell old new call (Err NoNode) undone c =
    write_goes old new c.fault c.base call (answer_of tell call c.base) (Err NoNode) (undone c.base) c.goes
write_own tell old new call (Err (Exists found)) undone c =
    write_goes old new c.fault c.base call (answer_of tell call c.base) (Err (Exists found)) (undone c.base) c.goes
write_own tell old new call (Err (VersionChanged expected found)) undone c =
    write_goes old new c.fault c.base call (answer_of tell call c.base) (Err (VersionChanged expected found)) (undone c.base) c.goes
write_own tell old new call (Err Failed) undone c =
    write_goes old new c.fault c.base call (answer_of tell call c.base) (Err Failed) (undone c.base) c.goes
write_own tell old new call (Err Memory) undone c = own_same old.own new.own c.goes.own

meaning_own : (old new : Meaning) → new ≡ old → GainsUndone old.own new.own
meaning_own old new e = own_same old.own new.own (ap (λ (m : Meaning). m.own) e)

pub out_own : (old new : Meaning) → RanOut old new → new.own ≡ old.own
out_own old new (inl e) = ap (λ (m : Meaning). m.own) e
out_own old new (inr (base, sees, stays)) = stays.own

-- ---- the writes

-- a call writes no Done node
abbrev IsUndone : Write → Type 0
IsUndone call = (base : List Seen) → IsDone (written_by base call).node → ⊥

abbrev AreUndone : Option Write → Type 0
AreUndone None = Unit {0}
AreUndone (Some call) = IsUndone call

create_undone : (r : Repairing) (now : Moment) (s : Sequence) (start : Offset) (last : Option ReadNode) → IsUndone (create_write r now s start last)
create_undone r now s start None = λ base d. d
create_undone r now s start (Some last) = λ base d. d

abandon_undone_by : (now : Moment) (from : Seen) (n : Node) → AreUndone (abandon_by now from n)
abandon_undone_by now from (node.Meta m) = λ base d. d
abandon_undone_by now from (node.Ideal i) = tt
abandon_undone_by now from node.Boot = tt
abandon_undone_by now from node.Gone = tt

abandon_undone : (now : Moment) (last : Option ReadNode) → AreUndone (abandon_write now last)
abandon_undone now None = tt
abandon_undone now (Some last) = abandon_undone_by now last.seen last.seen.node

ideal_undone : (r : Repairing) (s : Sequence) (follows : Bool) (ideal : Seen) → AreUndone (ideal_write r s follows ideal)
ideal_undone r s follows ideal = by_place (goes_on (entries_by ideal.node) r.partition s.0)
  where
    call : Write
    call = set ideal (node.Ideal (record { entries = added_entries r s follows (entries_by ideal.node) }))

    by_place : (b : Bool) → AreUndone (cond b (Some call) None)
    by_place true = λ base d. d
    by_place false = tt

delete_undone : (lowest : Option ReadNode) → AreUndone (delete_write lowest)
delete_undone None = tt
delete_undone (Some lowest) = λ base d. d

-- ---- a repair

sets_own : (old new : Meaning) (tell : Result ℕ StoreRefused → Option RepairStep) (call : Option Write) (did : RepairStep) → AreUndone call
    → of_repair.Sets old new tell call did → GainsUndone old.own new.own
sets_own old new tell None did undone x = meaning_own old new x.0
sets_own old new tell (Some call) did undone x = write_own (λ w. w.version) old new call x.0 undone x.1

does_own : (old new : Meaning) (r : Repairing) (now : Moment) (last : Option ReadNode) (follows : Bool) (ideal : Seen) (did : RepairStep)
    (d : Decision) → of_repair.Does old new r now last follows ideal did d → GainsUndone old.own new.own
does_own old new r now last follows ideal did decision.Nothing x = meaning_own old new x.0
does_own old new r now last follows ideal did (decision.Create s start) x =
    write_own (λ w. tt) old new (create_write r now s start last) x.0 (create_undone r now s start last) x.1
does_own old new r now last follows ideal did (decision.AddToIdeal s) x =
    sets_own old new of_repair.ideal_set (ideal_write r s follows ideal) did (ideal_undone r s follows ideal) x
does_own old new r now last follows ideal did (decision.Abandon s) x =
    sets_own old new (of_repair.abandoned s) (abandon_write now last) did (abandon_undone now last) x

repair_own_at : (old new : Meaning) (r : Repairing) (now : Moment) (x : of_repair.Stepped) (stage : RepairStage)
    → of_repair.StepsAt old new r now x stage → GainsUndone old.own new.own
repair_own_at old new r now x repair.Listing (answer, c, e) = own_same old.own new.own (read_own old new _ answer c)
repair_own_at old new r now x (repair.Reading last follows) (answer, c, e) = own_same old.own new.own (read_own old new _ answer c)
repair_own_at old new r now x (repair.Writing last follows ideal) (ended, d) =
    does_own old new r now last follows ideal x.step (decision_at r now last ideal) d
repair_own_at old new r now x repair.Ended steps = absurd steps

pub repair_own : (old new : Meaning) (r : Repairing) (now : Moment) (x : of_repair.Stepped) → of_repair.StepsAt old new r now x r.stage
    → GainsUndone old.own new.own
repair_own old new r now x steps = repair_own_at old new r now x r.stage steps

-- ---- a retirement

deletes_own : (old new : Meaning) (s : Sequence) (call : Option Write) (did : RetireStep) → AreUndone call
    → of_retire.Deletes old new s call did → GainsUndone old.own new.own
deletes_own old new s None did undone x = meaning_own old new x.0
deletes_own old new s (Some call) did undone x = write_own (λ w. tt) old new call x.0 undone x.1

retires_own : (old new : Meaning) (r : Retirement) (lowest : Option ReadNode) (ideal : Seen) (did : RetireStep) (d : Retiring)
    → of_retire.Does old new r lowest ideal did d → GainsUndone old.own new.own
retires_own old new r lowest ideal did retiring.Nothing x = meaning_own old new x.0
retires_own old new r lowest ideal did (retiring.Remove s) x =
    write_own (λ w. w.version) old new (remove_write r s ideal) x.0 (λ base d. d) x.1
retires_own old new r lowest ideal did (retiring.Delete s) x = deletes_own old new s (delete_write lowest) did (delete_undone lowest) x

retire_own_at : (old new : Meaning) (r : Retirement) (now : Moment) (x : of_retire.Stepped) (stage : RetireStage)
    → of_retire.StepsAt old new r now x stage → GainsUndone old.own new.own
retire_own_at old new r now x retirement.Listing (answer, c, e) = own_same old.own new.own (read_own old new _ answer c)
retire_own_at old new r now x (retirement.Reading lowest) (answer, c, e) = own_same old.own new.own (read_own old new _ answer c)
retire_own_at old new r now x (retirement.Writing lowest ideal) (ended, d) =
    retires_own old new r lowest ideal x.step (retiring_at r now lowest ideal) d
retire_own_at old new r now x retirement.Ended steps = absurd steps

pub retire_own : (old new : Meaning) (r : Retirement) (now : Moment) (x : of_retire.Stepped) → of_retire.StepsAt old new r now x r.stage
    → GainsUndone old.own new.own
retire_own old new r now x steps = retire_own_at old new r now x r.stage steps
