-- What a step of a commit job leaves, in the notes.
use Rattle.std.proofs.Common.{◌≡◌, ◌<◌, ℕ, Bool, true, false, List, Option, Some, None, refl, sym, ◌∙◌, ap, subst, arith}
use Rattle.std.proofs.lemmas.Bool.{false≢true}
use Rattle.std.proofs.lemmas.Option.{none-some, same_Some}
use Rattle.rt_base.specs.declared.numbers.ControllerId.{ControllerId}
use Rattle.rt_base.specs.declared.numbers.Moment.{Moment}
use Rattle.rt_base.specs.declared.numbers.Offset.{Offset}
use Rattle.rt_base.specs.declared.numbers.Partition.{Partition}
use Rattle.rt_base.specs.declared.numbers.Sequence.{Sequence}
use Rattle.rt_commit.proofs.Replying.{replies_first}
use Rattle.rt_commit.specs.Calls.{Answer}
use Rattle.rt_commit.specs.IsJob.{IsAt, IsSetDone}
use Rattle.rt_commit.specs.Job.{commits}
use Rattle.rt_commit.specs.Lasting.{IsJobOver, commit_end}
use Rattle.rt_commit.specs.Laws.{IsNamedBy, IsTrying, steps_left}
use Rattle.rt_commit.specs.Right.{EndsSo, MetFault, StatusSo}
use Rattle.rt_commit.specs.declared.job.Job.{Job}
use Rattle.rt_commit.specs.declared.job.JobStage.{JobStage}
use Rattle.rt_commit.specs.declared.job.JobStage.TheVariants as stage
use Rattle.rt_commit.specs.declared.stepped.Stepped.{Stepped}
use Rattle.rt_commit.specs.declared.work.Work.TheVariants as work
use Rattle.rt_controller.specs.Controller.{Controlling}
use Rattle.rt_controller.specs.Lasting.{IsControllerOver}
use Rattle.rt_controller.specs.Right.{LeavesJob, WorksOver, job_at, job_of}
use Rattle.rt_controller.specs.Working.{Working, job_place, settled, with_stage, work as work_of, work_call}
use Rattle.rt_deep.specs.Memory.{means as deep_means}
use Rattle.rt_events.specs.declared.outcome.Outcome.{Outcome}
use Rattle.rt_lists.proofs.Lists.{All-found}
use Rattle.rt_lists.specs.Members.{Has}
use Rattle.rt_model.specs.Messages.{asked_of}
use Rattle.rt_model.specs.Metadata.{IsDone, listed_write, node_key}
use Rattle.rt_model.specs.declared.asked.Asked.{Asked}
use Rattle.rt_model.specs.declared.job_step.StepName.{StepName}
use Rattle.rt_model.specs.declared.job_step.StepName.TheVariants as name
use Rattle.rt_model.specs.declared.node.Seen.{Seen}
use Rattle.rt_model.specs.declared.reply.Reply.{Reply}
use Rattle.rt_model.specs.declared.reply.ReplyStatus.{ReplyStatus}
use Rattle.rt_model.specs.declared.reply.ReplyStatus.TheVariants as status
use Rattle.rt_model.specs.declared.request.Request.{Request}
use Rattle.rt_model.specs.declared.seg_meta.SeenMeta.{SeenMeta}
use Rattle.rt_model.specs.declared.setup.Setup.{Setup}
use Rattle.rt_nodes.specs.declared.controller_node.ControllerNode.{ControllerNode}
use Rattle.rt_play.specs.Ledger.{is_done_step}
use Rattle.rt_safety.proofs.SuccessEnds.{answer_made, step_of, success_ends}
use Rattle.rt_safety.specs.CommitRun.{job_in}
use Rattle.rt_state.specs.IsSafe.{past_of}
use Rattle.rt_state.specs.IsSafeWorld.{IsSafeWorld}
use Rattle.rt_state.specs.declared.state.State.{State}
use Rattle.rt_store.specs.Meaning.{Told}
use Rattle.rt_store.specs.Memory.{means}
use Rattle.rt_past.specs.Past.{Past, with_history}
use Rattle.rt_past.specs.Segments.{WasDone}
use Rattle.rt_znodes.specs.Znodes.{end_by, end_in}
use Rattle.rt_unrefused.proofs.Answered.{IsFor}
use Rattle.rt_unrefused.proofs.JobSteps.{OwnStep, is_open_job, over, there_then}

-- ---- a step by its name

-- the step has the name of the job's stage
settled_step : (c : Controlling) (place : ℕ) (a : Asked) (commit : Bool) (did : Stepped) (o : Option ReplyStatus) → (settled c place a commit did o).step.step ≡ did.step
settled_step c place a commit did None = refl
settled_step c place a commit did (Some s) = refl

named_step : (c : Controlling) (n : ℕ) (now : Moment) (answer : Answer) (w : Working) (job : Job) → job_of c n ≡ Some job → IsTrying job.stage → work_of c n now answer ≡ Some w
    → IsNamedBy job.stage w.step.step
named_step c n now answer w job there trying made =
    let s = step_of c n now answer w made in
    let own : s.job ≡ job = same_Some s.job job (sym (ap (job_at c.jobs) s.found ∙ s.there) ∙ there) in
    let named = (replies_first s.job.asked now s.job.stage answer s.x (subst (λ (k : Job). IsTrying k.stage) (sym own) trying) s.made).0 in
    let same = settled_step (with_stage c s.place s.job s.x.stage) s.place s.job.asked (commits s.job.stage) s.x.did s.x.did.status in
    subst (IsNamedBy job.stage) (sym (ap (λ (v : Working). v.step.step) s.same ∙ same)) (subst (λ (k : Job). IsNamedBy k.stage s.x.did.step) own named)

no_done : (n m : StepName) → n ≡ m → is_done_step m ≡ false → is_done_step n ≡ true → ⊥
no_done n m same other is = false≢true (sym other ∙ ap is_done_step (sym same) ∙ is)

-- a job that makes its step `done` commits its segment, and has 22 steps left
record SetsDone (from : JobStage) : Type 0 where
  end : Offset
  ends : commit_end from ≡ Some end
  left : steps_left from ≡ 22

at_done : (from : JobStage) (n : StepName) → IsNamedBy from n → is_done_step n ≡ true → SetsDone from
at_done (stage.Check from end path) n same is = absurd (no_done n name.Check same refl is)
at_done (stage.Done from commit) n same is = record { end = commit.end; ends = refl; left = refl }
at_done (stage.Next done) n same is = absurd (no_done n name.Next same refl is)
at_done (stage.IdealRead w found) n same is = absurd (no_done n name.IdealRead same refl is)
at_done (stage.IdealSet w found ideal) n same is = absurd (no_done n name.IdealSet same refl is)
at_done stage.Ended n same is = absurd same

-- what ends where a job does ends at the job's one offset
one_end : (own other : Option Offset) (end x at : Offset) → own ≡ Some end → own ≡ other → at ≡ end → other ≡ Some x → at ≡ x
one_end own other end x at ends same is e = is ∙ same_Some end x (sym ends ∙ same ∙ e)

-- a job with fewer left that commits up to an offset has made its segment Done
record HasSet (h : List Seen) (a : Asked) (end : Offset) : Type 0 where
  write : Seen
  set : IsSetDone h a.partition a.sequence write
  ends : end_in write.node ≡ end

past_done : (h : List Seen) (a : Asked) (s : JobStage) (end : Offset) → IsAt h a s → steps_left s < 22 → commit_end s ≡ Some end → HasSet h a end
past_done h a (stage.Check from last path) end at few ends = let no : ⊥ = omega (arith, few) in absurd no
past_done h a (stage.Done from commit) end at few ends = let no : ⊥ = omega (arith, few) in absurd no
past_done h a (stage.Next done) end at few ends = record { write = done; set = at; ends = same_Some (end_in done.node) end ends }
past_done h a (stage.IdealRead (work.Commit done) found) end at few ends = record { write = done; set = at.done; ends = same_Some (end_in done.node) end ends }
past_done h a (stage.IdealRead work.Offline found) end at few ends = absurd (none-some end ends)
past_done h a (stage.IdealSet (work.Commit done) found ideal) end at few ends =
    record { write = done; set = at.work.done; ends = same_Some (end_in done.node) end ends }
past_done h a (stage.IdealSet work.Offline found ideal) end at few ends = absurd (none-some end ends)
past_done h a stage.Ended end at few ends = absurd at

-- a job of a controller lasts with it
job_over : (setup : Setup) (past : Past) (c : Controlling) (n : ℕ) (job : Job) → IsControllerOver setup past c → job_of c n ≡ Some job → IsJobOver setup past job
job_over setup past c n job over there = by_place (job_place c.jobs n) there
  where
    by_place : (o : Option ℕ) → job_at c.jobs o ≡ Some job → IsJobOver setup past job
    by_place None at = absurd (none-some job at)
    by_place (Some place) at = All-found (IsJobOver setup past) c.jobs place job over.jobs at

-- ---- the job that is stepped

-- a segment is DONE, where an offset is given up to there
pub record IsDoneTo (w : State) (p : Partition) (q : Sequence) (end : Option Offset) : Type 0 where
  pub write : Seen
  pub has : Has w.store.writes write
  pub of : write.key ≡ node_key p q.0
  pub done : IsDone write.node
  pub ends : (x : Offset) → end ≡ Some x → end_in write.node ≡ x

module _ (w v : State) (c : ControllerId) (j : ℕ) (o : Outcome) (safe : IsSafeWorld w) (k : OwnStep w v c j o) (request : Request)
    (works : IsFor w c j (asked_of request)) where
  abbrev its : WorksOver w.setup (past_of w) w.store k.store w.deep k.deep k.node.controller k.new j k.did
  its = over w v c j o safe k

  own_job : job_of k.node.controller j ≡ Some works.job
  own_job = ap (λ (n : Option ControllerNode). job_in n j) (sym k.at) ∙ works.there

  same_job : its.job ≡ works.job
  same_job = is_open_job w v c j o safe k works.job works.there

  same_end : commit_end its.job.stage ≡ commit_end works.job.stage
  same_end = ap (λ (x : Job). commit_end x.stage) same_job

  its_asked : its.job.asked ≡ asked_of request
  its_asked = ap (λ (x : Job). x.asked) same_job ∙ works.asked

  -- without a reply it goes on
  pub goes_on : k.did.reply ≡ None → (next : IsFor v c j (asked_of request)) × (commit_end next.job.stage ≡ commit_end works.job.stage)
  goes_on none = let l = subst (λ (r : Option Reply). LeavesJob its.job r (job_of k.new j)) none its.leaves in (
    record { job = l.0; there = there_then w v c j o safe k ∙ l.1; asked = l.3 ∙ its_asked },
    l.4 ∙ same_end,
  )

  abbrev Was : SeenMeta → Asked → Type 0
  Was seen a = WasDone k.store.writes a.partition a.sequence seen

  -- behind its step `done` it has committed
  pub sets_done : k.did.reply ≡ None → is_done_step k.did.step ≡ true → IsDoneTo v request.partition request.sequence (commit_end works.job.stage)
  sets_done none is =
      let l = subst (λ (r : Option Reply). LeavesJob its.job r (job_of k.new j)) none its.leaves in
      let made = answer_made (means w.store) (means k.store) (deep_means w.deep) (deep_means k.deep) (work_call k.node.controller j w.moment)
      (λ answer. work_of k.node.controller j w.moment answer ≡ Some (record { controller = k.new; step = k.did })) k.works in
      let before = job_over w.setup (past_of w) k.node.controller j its.job (safe.safe.controllers c.0 k.node k.at).over its.open_job in
      let named = named_step k.node.controller j w.moment made.0 (record { controller = k.new; step = k.did }) its.job its.open_job before.trying made.1 in
      let after = job_over w.setup (with_history (past_of w) k.store.writes) k.new j l.0 its.over l.1 in
      let done = at_done its.job.stage k.did.step named is in
      let few : steps_left l.0.stage < 22 = omega (arith, l.5, done.left) in
      let set = past_done k.store.writes l.0.asked l.0.stage done.end after.job.at few (l.4 ∙ done.ends) in
      let asked : l.0.asked ≡ asked_of request = l.3 ∙ its_asked in
      record {
        write = set.write;
        has = subst (λ (t : Told). Has t.writes set.write) (sym k.written) set.set.has;
        of = set.set.of ∙ ap (λ (a : Asked). node_key a.partition a.sequence.0) asked;
        done = set.set.done;
        ends = λ x. one_end (commit_end its.job.stage) (commit_end works.job.stage) done.end x (end_in set.write.node) done.ends same_end set.ends;
      }

  -- with COMMIT_SUCCESS it has committed
  pub succeeds : (reply : Reply) (seen : SeenMeta) → k.did.reply ≡ Some reply → reply.status ≡ status.CommitSuccess seen
      → IsDoneTo v request.partition request.sequence (commit_end works.job.stage)
  succeeds reply seen told is =
      let so = subst (EndsSo k.store.writes its.job.asked.partition its.job.asked.sequence (MetFault w.store k.store w.deep k.deep) (commits its.job.stage) k.did.step)
      told its.ends in
      let was = subst (StatusSo k.store.writes its.job.asked.partition its.job.asked.sequence (MetFault w.store k.store w.deep k.deep) (commits its.job.stage) k.did.step)
      is so in
      let own : Was seen (asked_of request) = subst (Was seen) its_asked was.1 in
      record {
        write = listed_write request.partition (record { sequence = request.sequence; seen = seen });
        has = subst (λ (t : Told). Has t.writes (listed_write request.partition (record { sequence = request.sequence; seen = seen }))) (sym k.written) own.0;
        of = refl;
        done = own.1;
        ends =
            λ x e.
            let ends = success_ends w.setup (past_of w) (means w.store) (means k.store) (deep_means w.deep) (deep_means k.deep) k.node.controller j w.moment
            (record { controller = k.new; step = k.did }) works.job x reply seen (safe.safe.controllers c.0 k.node k.at).over k.works own_job e told is own.1 in
            ap end_by ends.1 ∙ ends.2;
      }
