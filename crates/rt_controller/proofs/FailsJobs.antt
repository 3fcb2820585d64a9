-- A step of a controller's job fails only by a fault of a store.
use Rattle.std.proofs.Common.{◌≡◌, ℕ, Bool, Option, Some, None, Result, Ok, Err, refl, sym, ◌∙◌, ap}
use Rattle.std.specs.Prelude.{slice_get, IfOk}
use Rattle.rt_base.specs.declared.numbers.Moment.{Moment}
use Rattle.rt_lists.proofs.Lists.{All-found}
use Rattle.rt_model.specs.declared.asked.Asked.{Asked}
use Rattle.rt_model.specs.declared.job_step.JobStep.{JobStep}
use Rattle.rt_model.specs.declared.job_step.StepOutcome.TheVariants as outcome
use Rattle.rt_model.specs.declared.reply.ReplyStatus.{ReplyStatus}
use Rattle.rt_model.specs.declared.reply.ReplyStatus.TheVariants as status
use Rattle.rt_model.specs.Starting.{Starting}
use Rattle.rt_store.specs.declared.refused.StoreRefused.TheVariants.{Memory}
use Rattle.rt_store.specs.Meaning.{Meaning}
use Rattle.rt_commit.specs.declared.job.Job.{Job}
use Rattle.rt_commit.specs.declared.job.JobStage.TheVariants as stage
use Rattle.rt_commit.specs.Calls.{Makes, DeepMeaning}
use Rattle.rt_commit.specs.Causes.{Rose}
use Rattle.rt_commit.specs.IsJob.{IsJob}
use Rattle.rt_commit.specs.Job.{Stepping, job_call, job_step, commits}
use Rattle.rt_commit.proofs.FailsJobs.{fails_stage}
use Rattle.rt_commit.proofs.Making.{makes_some}
use Rattle.rt_controller.specs.declared.handled.JobRefused.TheVariants as refused
use Rattle.rt_controller.specs.declared.handled.JobRefused.TheVariants.{NoJob}
use Rattle.rt_controller.specs.declared.handled.JobRefused.{JobRefused}
use Rattle.rt_controller.specs.Causes.{HasFailed}
use Rattle.rt_controller.specs.Controller.{Controlling}
use Rattle.rt_controller.specs.IsController.{IsController}
use Rattle.rt_controller.specs.Steps.{Works}
use Rattle.rt_controller.specs.Working.{Working, settled, with_stage, worked, work_at, work_on, work_call_at, work_call_on, job_place}

-- ---- a step of the job of a number

abbrev working : Working → Option Working
working w = Some w

same_working : (v w : Working) → working v ≡ working w → v ≡ w
same_working v w e = cc

no_work : (w : Working) → working w ≡ None → ⊥
no_work w f = absurd (cc)

settled_outcome : (c : Controlling) (place : ℕ) (q : Asked) (b : Bool) (x : Stepping) (o : Option ReplyStatus)
    → (settled c place q b x.did o).step.outcome ≡ x.did.outcome
settled_outcome c place q b x None = refl
settled_outcome c place q b x (Some r) = refl

fails_at : (st : Starting) (s t : Meaning) (d e : DeepMeaning) (c : Controlling) (now : Moment) (place : ℕ) (j : Job) (w : Working)
    → IsController st s.seen c → slice_get c.jobs place ≡ Some j
    → Makes s t d e (job_call c.assigned j now) (λ a. worked c place j (job_step j now a) ≡ Some w)
    → HasFailed w.step → Rose s t d e
fails_at st s t d e c now place j w k at m f =
    let job = All-found (IsJob st s.seen) c.jobs place j k.jobs at in
    let x = makes_some s t d e (job_call c.assigned j now) (job_step j now) (λ o. worked c place j o ≡ Some w) (λ g. cc) m in
    let outcome_is : x.0.did.outcome ≡ w.step.outcome =
    sym (settled_outcome (with_stage c place j x.0.stage) place j.asked (commits j.stage) x.0 x.0.did.status)
    ∙ ap (λ (v : Working). v.step.outcome) (same_working _ w x.2) in
    fails_stage st s t d e c.assigned j.asked now x.0 j.stage k.lawful job.at x.1 (outcome_is ∙ f)

fails_slot : (st : Starting) (s t : Meaning) (d e : DeepMeaning) (c : Controlling) (now : Moment) (place : ℕ) (o : Option Job) (w : Working)
    → IsController st s.seen c → slice_get c.jobs place ≡ o
    → Makes s t d e (work_call_at c now o) (λ a. work_at c now a place o ≡ Some w) → HasFailed w.step → Rose s t d e
fails_slot st s t d e c now place None w k at m f = absurd (no_work w (sym m.2))
fails_slot st s t d e c now place (Some j) w k at m f = fails_at st s t d e c now place j w k at m f

fails_place : (st : Starting) (s t : Meaning) (d e : DeepMeaning) (c : Controlling) (now : Moment) (o : Option ℕ) (w : Working)
    → IsController st s.seen c → Makes s t d e (work_call_on c now o) (λ a. work_on c now a o ≡ Some w)
    → HasFailed w.step → Rose s t d e
fails_place st s t d e c now None w k m f = absurd (no_work w (sym m.2))
fails_place st s t d e c now (Some place) w k m f = fails_slot st s t d e c now place (slice_get c.jobs place) w k refl m f

pub fails_work : (st : Starting) (s t : Meaning) (d e : DeepMeaning) (c : Controlling) (n : ℕ) (now : Moment) (after : Controlling)
    (result : Result JobStep JobRefused) → IsController st s.seen c → Works s t d e c n now after result
    → IfOk result (λ step. HasFailed step → Rose s t d e)
fails_work st s t d e c n now after (Ok step) k m =
    λ f. fails_place st s t d e c now (job_place c.jobs n) (record { controller = after; step = step }) k m f
fails_work st s t d e c n now after (Err NoJob) k m = tt
fails_work st s t d e c n now after (Err refused.Memory) k m = tt
