-- A commit job that ends with COMMIT_SUCCESS has made its segment Done up to the offset that it was opened for.
use Rattle.std.proofs.Common.{◌≡◌, inl, inr, ℕ, Bool, List, Option, Some, None, refl, sym, ◌∙◌, ap, slice_get}
use Rattle.std.proofs.lemmas.Option.{none-some, same_Some}
use Rattle.rt_base.specs.declared.numbers.Moment.{Moment}
use Rattle.rt_base.specs.declared.numbers.Offset.{Offset}
use Rattle.rt_commit.proofs.Replying.{replies_first}
use Rattle.rt_commit.specs.Calls.{Answer, Call, DeepMeaning, Makes, calls_nothing, creates, gets, puts, reads, sets}
use Rattle.rt_commit.specs.Job.{Stepping, commits, job_step}
use Rattle.rt_commit.specs.Lasting.{IsJobOver, commit_end}
use Rattle.rt_commit.specs.Laws.{Answers, EndsOrGoesOn, IsSuccess}
use Rattle.rt_commit.specs.declared.job.Job.{Job}
use Rattle.rt_commit.specs.declared.job.JobStage.{JobStage}
use Rattle.rt_commit.specs.declared.job.JobStage.TheVariants as stage
use Rattle.rt_commit.specs.declared.stepped.Stepped.{Stepped}
use Rattle.rt_commit.specs.declared.work.Work.{Work}
use Rattle.rt_commit.specs.declared.work.Work.TheVariants as work
use Rattle.rt_controller.specs.Controller.{Controlling, reply_to}
use Rattle.rt_controller.specs.Lasting.{IsControllerOver}
use Rattle.rt_controller.specs.Right.{job_at, job_of}
use Rattle.rt_controller.specs.Working.{Working, job_place, settled, with_stage, work as work_of, work_at, work_call, work_on, worked}
use Rattle.rt_lists.proofs.Lists.{All-found}
use Rattle.rt_model.specs.Metadata.{IsDoneStatus}
use Rattle.rt_model.specs.declared.asked.Asked.{Asked}
use Rattle.rt_model.specs.declared.commit.Commit.{Commit}
use Rattle.rt_model.specs.declared.job_step.StepOutcome.{StepOutcome}
use Rattle.rt_model.specs.declared.node.Seen.{Seen}
use Rattle.rt_model.specs.declared.reply.FailCause.{FailCause}
use Rattle.rt_model.specs.declared.reply.Reply.{Reply}
use Rattle.rt_model.specs.declared.reply.ReplyStatus.{ReplyStatus}
use Rattle.rt_model.specs.declared.reply.ReplyStatus.TheVariants as status
use Rattle.rt_model.specs.declared.seg_meta.SeenMeta.{SeenMeta}
use Rattle.rt_model.specs.declared.setup.Setup.{Setup}
use Rattle.rt_model.specs.declared.status.Status.{Status}
use Rattle.rt_model.specs.declared.status.Status.TheVariants.{InProgress, Done, Abandoned}
use Rattle.rt_past.specs.Past.{Past}
use Rattle.rt_safety.specs.CommitRun.{EndsAt}
use Rattle.rt_store.specs.Meaning.{Meaning}
use Rattle.rt_znodes.specs.Znodes.{end_by, end_in, seen_meta_of}

-- ---- a success by its stage

-- the job's own Done metadata
abbrev IsOwn : JobStage → SeenMeta → Type 0
IsOwn from seen = (done : Seen) × (commit_end from ≡ Some (end_in done.node)) × (seen ≡ seen_meta_of done)

never_fails : (because : FailCause) (seen : SeenMeta) → status.Failed because ≡ status.CommitSuccess seen → ⊥
never_fails because seen e = cc

never_processed : (seen : SeenMeta) → status.Processed ≡ status.CommitSuccess seen → ⊥
never_processed seen e = cc

same_seen : (a b : SeenMeta) → status.CommitSuccess a ≡ status.CommitSuccess b → a ≡ b
same_seen a b e = cc

by_work : (w : Work) (found : List ℕ) (r : ReplyStatus) (seen : SeenMeta) → IsSuccess w r → r ≡ status.CommitSuccess seen → IsOwn (stage.IdealRead w found) seen
by_work (work.Commit done) found r seen is e = (done, refl, sym (same_seen (seen_meta_of done) seen (sym is ∙ e)))
by_work work.Offline found r seen is e = absurd (never_processed seen (sym is ∙ e))

success_is : (q : Asked) (from : JobStage) (answer : Answer) (o : StepOutcome) (r : ReplyStatus) (seen : SeenMeta) → Answers q from answer o r → r ≡ status.CommitSuccess seen → IsOwn from seen
success_is q (stage.Check from end path) answer o r seen (inl h) e = absurd (never_fails _ seen (sym h.1 ∙ e))
success_is q (stage.Check from end path) answer o r seen (inr h) e = absurd (never_fails _ seen (sym h.3 ∙ e))
success_is q (stage.Done from commit) answer o r seen (inl h) e = absurd (never_fails _ seen (sym h.1 ∙ e))
success_is q (stage.Done from commit) answer o r seen (inr (inl h)) e = absurd (never_fails _ seen (sym h.2 ∙ e))
success_is q (stage.Done from commit) answer o r seen (inr (inr h)) e = absurd (never_fails _ seen (sym h.4 ∙ e))
success_is q (stage.Next done) answer o r seen (inl h) e = absurd (never_fails _ seen (sym h.1 ∙ e))
success_is q (stage.Next done) answer o r seen (inr (inl h)) e = absurd (never_fails _ seen (sym h.4 ∙ e))
success_is q (stage.Next done) answer o r seen (inr (inr h)) e = (done, refl, sym (same_seen (seen_meta_of done) seen (sym h.2 ∙ e)))
success_is q (stage.IdealRead w found) answer o r seen (inl h) e = absurd (never_fails _ seen (sym h.1 ∙ e))
success_is q (stage.IdealRead w found) answer o r seen (inr h) e = by_work w found r seen h.4 e
success_is q (stage.IdealSet w found ideal) answer o r seen (inl h) e = absurd (never_fails _ seen (sym h.1 ∙ e))
success_is q (stage.IdealSet w found ideal) answer o r seen (inr (inl h)) e = absurd (never_fails _ seen (sym h.5 ∙ e))
success_is q (stage.IdealSet w found ideal) answer o r seen (inr (inr h)) e = by_work w found r seen h.3 e
success_is q stage.Ended answer o r seen h e = absurd h

ends_own : (q : Asked) (now : Moment) (from to : JobStage) (answer : Answer) (o : StepOutcome) (r : Option ReplyStatus) (seen : SeenMeta) → EndsOrGoesOn q now from answer o r to
    → r ≡ Some (status.CommitSuccess seen) → IsOwn from seen
ends_own q now from to answer o None seen h e = absurd (none-some (status.CommitSuccess seen) e)
ends_own q now from to answer o (Some r) seen h e = success_is q from answer o r seen h.0 (same_Some r (status.CommitSuccess seen) e)

-- ---- the step of a controller's job

-- something is made of an answer
pub answer_made : (s t : Meaning) (d e : DeepMeaning) (call : Call) (P : Answer → Type 0) → Makes s t d e call P → (answer : Answer) × P answer
answer_made s t d e calls_nothing P h = (_, h.2)
answer_made s t d e (puts path bytes) P h = (_, h.3)
answer_made s t d e (gets path) P h = (_, h.3)
answer_made s t d e (reads k) P h = (_, h.3)
answer_made s t d e (sets from n) P h = (_, h.3)
answer_made s t d e (creates k n prior) P h = (_, h.3)

-- the job of a number, and the step that it made
pub record IsStepOf (c : Controlling) (n : ℕ) (now : Moment) (answer : Answer) (w : Working) : Type 0 where
  pub place : ℕ
  pub found : job_place c.jobs n ≡ Some place
  pub job : Job
  pub there : slice_get c.jobs place ≡ Some job
  pub x : Stepping
  pub made : job_step job now answer ≡ Some x
  pub same : w ≡ settled (with_stage c place job x.stage) place job.asked (commits job.stage) x.did x.did.status

pub step_of : (c : Controlling) (n : ℕ) (now : Moment) (answer : Answer) (w : Working) → work_of c n now answer ≡ Some w → IsStepOf c n now answer w
step_of c n now answer w e = by_place (job_place c.jobs n) refl e
  where
    by_step : (place : ℕ) (j : Job) → job_place c.jobs n ≡ Some place → slice_get c.jobs place ≡ Some j → (o : Option Stepping) → job_step j now answer ≡ o
        → worked c place j o ≡ Some w → IsStepOf c n now answer w
    by_step place j found there None made f = absurd (none-some w f)
    by_step place j found there (Some x) made f =
        record { place = place; found = found; job = j; there = there; x = x; made = made; same = sym (same_Some _ w f) }

    by_job : (place : ℕ) → job_place c.jobs n ≡ Some place → (o : Option Job) → slice_get c.jobs place ≡ o → work_at c now answer place o ≡ Some w
        → IsStepOf c n now answer w
    by_job place found None there f = absurd (none-some w f)
    by_job place found (Some j) there f = by_step place j found there (job_step j now answer) refl f

    by_place : (o : Option ℕ) → job_place c.jobs n ≡ o → work_on c now answer o ≡ Some w → IsStepOf c n now answer w
    by_place None found f = absurd (none-some w f)
    by_place (Some place) found f = by_job place found (slice_get c.jobs place) refl f

pub settled_reply : (c : Controlling) (place : ℕ) (a : Asked) (commit : Bool) (did : Stepped) (o : Option ReplyStatus) (reply : Reply)
    → (settled c place a commit did o).step.reply ≡ Some reply → o ≡ Some reply.status
settled_reply c place a commit did None reply e = absurd (none-some reply e)
settled_reply c place a commit did (Some s) reply e = ap (λ (r : Reply). Some r.status) (same_Some (reply_to a s) reply e)

done_status : (s : Status) → IsDoneStatus s → (commit : Commit) × (s ≡ Done commit) × (commit.end ≡ end_by s)
done_status InProgress h = absurd h
done_status (Done commit) h = (commit, refl, refl)
done_status Abandoned h = absurd h

-- a job that is open up to an offset, and ends with COMMIT_SUCCESS
pub success_ends : (setup : Setup) (past : Past) (s t : Meaning) (d e : DeepMeaning) (c : Controlling) (n : ℕ) (now : Moment) (w : Working) (job : Job) (end : Offset) (reply : Reply)
    (seen : SeenMeta) → IsControllerOver setup past c → Makes s t d e (work_call c n now) (λ answer. work_of c n now answer ≡ Some w) → job_of c n ≡ Some job
    → commit_end job.stage ≡ Some end → w.step.reply ≡ Some reply → reply.status ≡ status.CommitSuccess seen → IsDoneStatus seen.meta.status → EndsAt seen end
success_ends setup past s t d e c n now w job end reply seen over makes there ends_at told is done =
    let made = answer_made s t d e (work_call c n now) (λ answer. work_of c n now answer ≡ Some w) makes in
    let k = step_of c n now made.0 w made.1 in
    let own_job : k.job ≡ job = same_Some k.job job (sym (ap (job_at c.jobs) k.found ∙ k.there) ∙ there) in
    let lasts = All-found (IsJobOver setup past) c.jobs k.place k.job over.jobs k.there in
    let replied : k.x.did.status ≡ Some (status.CommitSuccess seen) =
    settled_reply (with_stage c k.place k.job k.x.stage) k.place k.job.asked (commits k.job.stage) k.x.did k.x.did.status reply
    (sym (ap (λ (v : Working). v.step.reply) k.same) ∙ told) ∙ ap (λ r. Some r) is in
    let tells = replies_first k.job.asked now k.job.stage made.0 k.x lasts.trying k.made in
    let own = ends_own k.job.asked now k.job.stage k.x.stage made.0 k.x.did.outcome k.x.did.status seen tells.1 replied in
    let ended = done_status seen.meta.status done in
    let offset : end_by seen.meta.status ≡ end =
    ap (λ (m : SeenMeta). end_by m.meta.status) own.2
    ∙ same_Some (end_in own.0.node) end (sym own.1 ∙ ap (λ (j : Job). commit_end j.stage) own_job ∙ ends_at) in
    (ended.0, ended.1, ended.2 ∙ offset)
