-- A commit job that ends since another version was found wrote nothing in its last step.
use Rattle.std.proofs.Common.{◌≡◌, ℕ, Option, Some, None, Ok, Err, slice_get, ◌∙◌, ap, subst, ⊎_elim}
use Rattle.std.proofs.lemmas.Option.{none-some, same_Some}
use Rattle.rt_base.specs.declared.numbers.Moment.{Moment}
use Rattle.rt_commit.proofs.Making.{makes_some}
use Rattle.rt_commit.specs.Assignment.{Assigned}
use Rattle.rt_commit.specs.Calls.{DeepMeaning, Makes}
use Rattle.rt_commit.specs.Job.{Stepping, after_done, after_next, after_set, call_at, commits, done_node, ends, fails, goes, ideal_node, job_call, job_step, next_key, next_node, step_at, success}
use Rattle.rt_commit.specs.declared.job.Job.{Job}
use Rattle.rt_commit.specs.declared.job.JobStage.{JobStage}
use Rattle.rt_commit.specs.declared.job.JobStage.TheVariants as stage
use Rattle.rt_commit.specs.declared.work.Work.{Work}
use Rattle.rt_commit.specs.declared.work.Work.TheVariants as work
use Rattle.rt_controller.specs.Controller.{Controlling}
use Rattle.rt_controller.specs.Steps.{Works}
use Rattle.rt_controller.specs.Working.{Working, job_place, with_stage, work_at, work_call_at, work_call_on, work_on, worked}
use Rattle.rt_model.specs.Lawful.{create_after, set}
use Rattle.rt_model.specs.declared.asked.Asked.{Asked}
use Rattle.rt_model.specs.declared.job_step.JobStep.{JobStep}
use Rattle.rt_model.specs.declared.job_step.StepName.{StepName}
use Rattle.rt_model.specs.declared.job_step.StepName.TheVariants as name
use Rattle.rt_model.specs.declared.job_step.StepOutcome.{StepOutcome}
use Rattle.rt_model.specs.declared.node.Key.TheVariants as key
use Rattle.rt_model.specs.declared.reply.FailCause.TheVariants as cause
use Rattle.rt_model.specs.declared.reply.Reply.{Reply}
use Rattle.rt_model.specs.declared.reply.ReplyStatus.{ReplyStatus}
use Rattle.rt_model.specs.declared.reply.ReplyStatus.TheVariants as status
use Rattle.rt_safety.proofs.SuccessEnds.{settled_reply}
use Rattle.rt_store.proofs.Seeing.{told_exact}
use Rattle.rt_store.proofs.Told.{read_same, refused_nothing_told}
use Rattle.rt_store.specs.Answers.{reading}
use Rattle.rt_store.specs.Meaning.{Told}
use Rattle.rt_store.specs.Memory.{means}

abbrev pub changed : ℕ → ℕ → ReplyStatus
changed expected found = status.Failed (cause.VersionChanged expected found)

fault_differs : (expected found : ℕ) → Some (status.Failed cause.StoreFault) ≡ Some (changed expected found) → ⊥
fault_differs expected found e = cc

success_differs : (w : Work) (expected found : ℕ) → Some (success w) ≡ Some (changed expected found) → ⊥
success_differs (work.Commit done) expected found e = cc
success_differs work.Offline expected found e = cc

-- ---- by the job's stage

module _ (t u : Told) (d e : DeepMeaning) (a : Assigned) (q : Asked) (now : Moment) (x : Stepping) (expected found : ℕ)
    (is : x.did.status ≡ Some (changed expected found)) where
  told_of : (y : Stepping) → Some y ≡ Some x → y.did.status ≡ Some (changed expected found)
  told_of y made = ap (λ (z : Stepping). z.did.status) (same_Some y x made) ∙ is

  never_goes : (s : JobStage) (n : StepName) (o : StepOutcome) → goes s n o ≡ Some x → ⊥
  never_goes s n o made = none-some (changed expected found) (told_of _ made)

  never_fails : (n : StepName) → fails n ≡ Some x → ⊥
  never_fails n made = fault_differs expected found (told_of _ made)

  never_succeeds : (w : Work) (n : StepName) (o : StepOutcome) → ends n o (success w) ≡ Some x → ⊥
  never_succeeds w n o made = success_differs w expected found (told_of _ made)

  stage_same : (from : JobStage) → Makes (means t) (means u) d e (call_at a q now from) (λ answer. step_at q now from answer ≡ Some x) → u.writes ≡ t.writes
  stage_same (stage.Check from end path) (answer, gets, same, made) = ap (λ m. m.seen) same
  stage_same (stage.Done from commit) (Ok version, sets, same, made) = absurd (never_goes _ _ _ made)
  stage_same (stage.Done from commit) (Err refused, sets, same, made) =
      refused_nothing_told (λ w. w.version) t u (set from (done_node from commit now)) refused sets
      (λ failed. never_fails name.Done (subst (λ r. after_done from commit now (Err r) ≡ Some x) failed made))
  stage_same (stage.Next done) (Ok made_it, creates, same, made) = absurd (never_goes _ _ _ made)
  stage_same (stage.Next done) (Err refused, creates, same, made) =
      refused_nothing_told (λ w. tt) t u (create_after (next_key q) (next_node a q now done) done) refused creates
      (λ failed. never_fails name.Next (subst (λ r. after_next done (Err r) ≡ Some x) failed made))
  stage_same (stage.IdealRead w tries) (answer, reads, same, made) =
      ⊎_elim (λ out. ap (λ (z : Told). z.writes) out.1) (λ read. ap (λ (z : Told). z.writes) read.1 ∙ read_same t)
      (told_exact t u (reading key.Ideal) (λ base. base) answer reads)
  stage_same (stage.IdealSet w tries ideal) (Ok version, sets, same, made) = absurd (never_succeeds w _ _ made)
  stage_same (stage.IdealSet w tries ideal) (Err refused, sets, same, made) =
      refused_nothing_told (λ w. w.version) t u (set ideal (ideal_node a q w ideal)) refused sets
      (λ failed. never_fails name.IdealSet (subst (λ r. after_set w tries (Err r) ≡ Some x) failed made))
  stage_same stage.Ended (same, files, made) = ap (λ m. m.seen) same

-- ---- the step of a controller's job

module _ (t u : Told) (d e : DeepMeaning) (c : Controlling) (now : Moment) (w : Working) (reply : Reply) (expected found : ℕ) (told : w.step.reply ≡ Some reply)
    (is : reply.status ≡ changed expected found) where
  slot_same : (place : ℕ) (o : Option Job) → Makes (means t) (means u) d e (work_call_at c now o) (λ answer. work_at c now answer place o ≡ Some w)
      → u.writes ≡ t.writes
  slot_same place None m = absurd (none-some w m.2)
  slot_same place (Some j) m =
      let x = makes_some (means t) (means u) d e (job_call c.assigned j now) (job_step j now) (λ o. worked c place j o ≡ Some w) (λ f. none-some w f) m in
      stage_same t u d e c.assigned j.asked now x.0 expected found
      (settled_reply (with_stage c place j x.0.stage) place j.asked (commits j.stage) x.0.did x.0.did.status reply
      (ap (λ (v : Working). v.step.reply) (same_Some _ w x.2) ∙ told) ∙ ap (λ s. Some s) is)
      j.stage x.1

  pub place_same : (o : Option ℕ) → Makes (means t) (means u) d e (work_call_on c now o) (λ answer. work_on c now answer o ≡ Some w) → u.writes ≡ t.writes
  place_same None m = absurd (none-some w m.2)
  place_same (Some place) m = slot_same place (slice_get c.jobs place) m

pub changed_wrote_nothing : (t u : Told) (d e : DeepMeaning) (c new : Controlling) (n : ℕ) (now : Moment) (step : JobStep) (reply : Reply) (expected found : ℕ)
    → Works (means t) (means u) d e c n now new (Ok step) → step.reply ≡ Some reply → reply.status ≡ changed expected found → u.writes ≡ t.writes
changed_wrote_nothing t u d e c new n now step reply expected found works told is =
    place_same t u d e c now (record { controller = new; step = step }) reply expected found told is (job_place c.jobs n) works
