-- What a controller remembers stays so, through each of its calls and as more is seen.
use Rattle.std.proofs.Common.{◌≡◌, ℕ, suc, Bool, true, false, List, take, drop, Option, Some, None, Result, Ok, Err, refl, sym, subst, arith}
use Rattle.std.specs.Prelude.{slice_get, slice_set, All}
use Rattle.std.specs.List.{remove}
use Rattle.std.proofs.lemmas.List.{take-set, drop-set-lt}
use Rattle.std.proofs.lemmas.List.Elements.{All-weaker, All-set, All-append, All-take, All-drop}
use Rattle.rt_base.specs.declared.numbers.Moment.{Moment}
use Rattle.rt_lists.specs.Members.{IsFront}
use Rattle.rt_lists.proofs.Lists.{All-found}
use Rattle.rt_model.specs.declared.asked.Asked.{Asked}
use Rattle.rt_model.specs.declared.job_step.JobStep.{JobStep}
use Rattle.rt_model.specs.declared.node.Seen.{Seen}
use Rattle.rt_model.specs.declared.reply.ReplyStatus.{ReplyStatus}
use Rattle.rt_model.specs.Starting.{Starting}
use Rattle.rt_store.specs.Meaning.{Meaning}
use Rattle.rt_store.proofs.GoingOn.{GoesOn, goes_same}
use Rattle.rt_commit.specs.declared.job.Job.{Job}
use Rattle.rt_commit.specs.Calls.{Makes, DeepMeaning}
use Rattle.rt_commit.specs.IsJob.{IsAt, IsJob}
use Rattle.rt_commit.specs.Job.{at_stage, Stepping, job_call, job_step, commits}
use Rattle.rt_commit.proofs.Going.{goes_idle, goes_made}
use Rattle.rt_commit.proofs.KeepsJobs.{read_on, keeps_stage, job_on}
use Rattle.rt_commit.proofs.Making.{makes_some}
use Rattle.rt_controller.specs.declared.handled.JobRefused.TheVariants.{NoJob, Memory}
use Rattle.rt_controller.specs.declared.handled.JobRefused.{JobRefused}
use Rattle.rt_controller.specs.declared.segment_machine.SegmentMachine.{SegmentMachine}
use Rattle.rt_controller.specs.Controller.{Controlling, machine_place, without_at, without_machine}
use Rattle.rt_controller.specs.IsController.{IsMachine, IsController}
use Rattle.rt_controller.specs.Steps.{Works}
use Rattle.rt_controller.specs.Working.{Working, with_stage, settled, worked, work_at, work_on, work_call_at, work_call_on, job_place}
use Rattle.rt_controller.proofs.MayStep.{may_step}

-- ---- lists without an item

pub All-remove : {X : Type 0} (P : X → Type 0) (xs : List X) (i : ℕ) → All P xs → All P (remove xs i)
All-remove P xs i a = All-append P (take i xs) (drop (suc i) xs) (All-take P i xs a) (All-drop P (suc i) xs a)

-- an item that leaves isn't asked
pub All-remove_set : {X : Type 0} (P : X → Type 0) (xs : List X) (i : ℕ) (x : X) → All P xs → All P (remove (slice_set xs i x) i)
All-remove_set {X = X} P xs i x a =
    let Q : List X → Type 0 = All P in
    All-append P (take i (slice_set xs i x)) (drop (suc i) (slice_set xs i x))
    (subst Q (sym (take-set xs i x)) (All-take P i xs a))
    (subst Q (sym (drop-set-lt (suc i) xs i x (omega arith))) (All-drop P (suc i) xs a))

-- ---- as more is seen

pub machine_on : (st : Starting) (a b : List Seen) (m : SegmentMachine) → IsFront a b → IsMachine st a m → IsMachine st b m
machine_on st a b m f k =
    record { within = k.within; small = k.small; read = read_on a b m.partition m.sequence _ f k.read }

pub jobs_on : (st : Starting) (a b : List Seen) (js : List Job) → IsFront a b → All (IsJob st a) js → All (IsJob st b) js
jobs_on st a b js f k = All-weaker (IsJob st a) (IsJob st b) (λ j. job_on st a b j f) js k

pub machines_on :
    (st : Starting) (a b : List Seen) (ms : List SegmentMachine) → IsFront a b → All (IsMachine st a) ms → All (IsMachine st b) ms
machines_on st a b ms f k = All-weaker (IsMachine st a) (IsMachine st b) (λ m. machine_on st a b m f) ms k

pub controller_on :
    (st : Starting) (s t : Meaning) (c : Controlling) → GoesOn st s t → IsController st s.seen c → IsController st t.seen c
controller_on st s t c g k =
    record {
      assigned = k.assigned;
      lawful = g.lawful;
      machines = machines_on st s.seen t.seen c.machines g.front k.machines;
      jobs = jobs_on st s.seen t.seen c.jobs g.front k.jobs;
    }

-- ---- a step of a job

left : (P : SegmentMachine → Type 0) (ms : List SegmentMachine) (o : Option ℕ) → All P ms → All P (without_at ms o)
left P ms None a = a
left P ms (Some place) a = All-remove P ms place a

pub without : (P : SegmentMachine → Type 0) (ms : List SegmentMachine) (q : Asked) (b : Bool) → All P ms → All P (without_machine ms q b)
without P ms q false a = a
without P ms q true a = left P ms (machine_place ms q.partition q.sequence) a

settles : (st : Starting) (s t : Meaning) (c : Controlling) (place : ℕ) (j : Job) (x : Stepping) (o : Option ReplyStatus)
    → GoesOn st s t → IsController st s.seen c → IsJob st s.seen j → (o ≡ None → IsAt t.seen j.asked x.stage)
    → IsController st t.seen (settled (with_stage c place j x.stage) place j.asked (commits j.stage) x.did o).controller
settles st s t c place j x None g k job at =
    let on = controller_on st s t c g k in
    record {
      assigned = k.assigned;
      lawful = g.lawful;
      machines = on.machines;
      jobs =
          All-set (IsJob st t.seen) c.jobs place (at_stage j x.stage)
          (record { within = job.within; small = job.small; at = at refl }) on.jobs;
    }
settles st s t c place j x (Some r) g k job at =
    let on = controller_on st s t c g k in
    record {
      assigned = k.assigned;
      lawful = g.lawful;
      machines = without (IsMachine st t.seen) c.machines j.asked (commits j.stage) on.machines;
      jobs = All-remove_set (IsJob st t.seen) c.jobs place (at_stage j x.stage) on.jobs;
    }

abbrev working : Working → Option Working
working w = Some w

same_working : (v w : Working) → working v ≡ working w → v.controller ≡ w.controller
same_working v w e = cc

works_at : (st : Starting) (s t : Meaning) (d e : DeepMeaning) (c : Controlling) (now : Moment) (place : ℕ) (j : Job) (w : Working)
    → IsController st s.seen c → slice_get c.jobs place ≡ Some j
    → Makes s t d e (job_call c.assigned j now) (λ a. worked c place j (job_step j now a) ≡ Some w)
    → IsController st t.seen w.controller
works_at st s t d e c now place j w k at m =
    let job = All-found (IsJob st s.seen) c.jobs place j k.jobs at in
    let g = goes_made st s t d e (job_call c.assigned j now) _ k.lawful (may_step st s.seen c now place j k at).call m in
    let x = makes_some s t d e (job_call c.assigned j now) (job_step j now) (λ o. worked c place j o ≡ Some w) (λ f. cc) m in
    let P : Controlling → Type 0 = IsController st t.seen in
    subst P (same_working _ w x.2)
    (settles st s t c place j x.0 x.0.did.status g k job
    (λ f. keeps_stage st s t d e c.assigned j.asked now x.0 j.stage job.within k.lawful g job.at x.1 f))

no_work : (w : Working) → working w ≡ None → ⊥
no_work w f = absurd (cc)

works_slot : (st : Starting) (s t : Meaning) (d e : DeepMeaning) (c : Controlling) (now : Moment) (place : ℕ) (o : Option Job) (w : Working)
    → IsController st s.seen c → slice_get c.jobs place ≡ o
    → Makes s t d e (work_call_at c now o) (λ a. work_at c now a place o ≡ Some w) → IsController st t.seen w.controller
works_slot st s t d e c now place None w k at m = absurd (no_work w (sym m.2))
works_slot st s t d e c now place (Some j) w k at m = works_at st s t d e c now place j w k at m

works_place : (st : Starting) (s t : Meaning) (d e : DeepMeaning) (c : Controlling) (now : Moment) (o : Option ℕ) (w : Working)
    → IsController st s.seen c → Makes s t d e (work_call_on c now o) (λ a. work_on c now a o ≡ Some w)
    → IsController st t.seen w.controller
works_place st s t d e c now None w k m = absurd (no_work w (sym m.2))
works_place st s t d e c now (Some place) w k m = works_slot st s t d e c now place (slice_get c.jobs place) w k refl m

pub unchanged : (st : Starting) (s t : Meaning) (c after : Controlling) → GoesOn st s t → IsController st s.seen c → after ≡ c → IsController st t.seen after
unchanged st s t c after g k same =
    let P : Controlling → Type 0 = IsController st t.seen in
    subst P (sym same) (controller_on st s t c g k)

pub keeps_work : (st : Starting) (s t : Meaning) (d e : DeepMeaning) (c : Controlling) (n : ℕ) (now : Moment) (after : Controlling)
    (result : Result JobStep JobRefused) → IsController st s.seen c → Works s t d e c n now after result → IsController st t.seen after
keeps_work st s t d e c n now after (Ok step) k m =
    works_place st s t d e c now (job_place c.jobs n) (record { controller = after; step = step }) k m
keeps_work st s t d e c n now after (Err NoJob) k m = unchanged st s t c after (goes_same st s t k.lawful m.2) k m.1
keeps_work st s t d e c n now after (Err Memory) k m = unchanged st s t c after (goes_idle st s t k.lawful m.1.0) k m.0
