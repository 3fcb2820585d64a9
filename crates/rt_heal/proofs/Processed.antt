-- A stop that a job processed leaves its instance nothing of the segment to consume.
use Rattle.std.proofs.Common.{◌≡◌, ℕ, ◌&&◌, inl, inr, Bool, true, false, cond, List, [], ◌∷◌, ◌++◌, Option, Some, None, Result, Ok, Err, refl, sym, ◌∙◌, ap, subst, length}
use Rattle.std.specs.List.{list_any}
use Rattle.std.specs.Prelude.{◌==◌, nat_lt}
use Rattle.std.proofs.lemmas.Bool.{and_from, cond-false, cond-true, eq-eqb, or_parts, true≢false}
use Rattle.std.proofs.lemmas.Option.{none-some, same_Some}
use Rattle.rt_base.specs.declared.numbers.Instance.{Instance}
use Rattle.rt_base.specs.declared.numbers.Moment.{Moment}
use Rattle.rt_base.specs.declared.numbers.Partition.{Partition}
use Rattle.rt_base.specs.declared.numbers.Sequence.{Sequence}
use Rattle.rt_commit.specs.Assignment.{Assigned}
use Rattle.rt_commit.specs.Changes.{is_consuming, offline_changes}
use Rattle.rt_commit.specs.IsJob.{IsAt}
use Rattle.rt_commit.specs.Job.{after_read, after_set, call_at, commits, ends, goes, ideal_node, is_commit, step_at, Stepping}
use Rattle.rt_commit.specs.Lasting.{IsJobOver}
use Rattle.rt_commit.specs.Told.{answer_to, store_after, ToldDeep}
use Rattle.rt_commit.specs.declared.job.Job.{Job}
use Rattle.rt_commit.specs.declared.job.JobStage.{JobStage}
use Rattle.rt_commit.specs.declared.job.JobStage.TheVariants as stage
use Rattle.rt_commit.specs.declared.work.Work.{Work}
use Rattle.rt_commit.specs.declared.work.Work.TheVariants as work
use Rattle.rt_controller.specs.Controller.{Controlling}
use Rattle.rt_controller.specs.Lasting.{IsControllerOver}
use Rattle.rt_controller.specs.Right.{job_at, job_of}
use Rattle.rt_controller.specs.Steps.{Works}
use Rattle.rt_controller.specs.Working.{with_stage, work_call, work_call_at, work_call_on, Working}
use Rattle.rt_controller.proofs.Telling.{told_work}
use Rattle.rt_deep.specs.Memory.{means as deep_means}
use Rattle.rt_lists.specs.Members.{Has}
use Rattle.rt_lists.proofs.Lists.{All-found}
use Rattle.rt_lists.proofs.Members.{Has-map}
use Rattle.rt_model.specs.Entries.{entries_by, entries_in, entries_of}
use Rattle.rt_model.specs.Ideal.{is_of, is_of_instance, offline_mode, set_offline_of, turned_offline}
use Rattle.rt_model.specs.Lawful.{set, written_by}
use Rattle.rt_model.specs.declared.asked.Asked.{Asked}
use Rattle.rt_model.specs.declared.ideal_state.IdealEntry.{IdealEntry}
use Rattle.rt_model.specs.declared.job_step.JobStep.{JobStep}
use Rattle.rt_model.specs.declared.job_step.StepName.TheVariants as name
use Rattle.rt_model.specs.declared.job_step.StepOutcome.TheVariants as outcome
use Rattle.rt_model.specs.declared.node.Key.TheVariants as key
use Rattle.rt_model.specs.declared.node.Seen.{Seen}
use Rattle.rt_model.specs.declared.reply.FailCause.TheVariants as cause
use Rattle.rt_model.specs.declared.reply.Reply.{Reply}
use Rattle.rt_model.specs.declared.reply.ReplyStatus.{ReplyStatus}
use Rattle.rt_model.specs.declared.reply.ReplyStatus.TheVariants as status
use Rattle.rt_model.specs.declared.setup.Setup.{Setup}
use Rattle.rt_model.proofs.Histories.{last_write-more, value_of-last}
use Rattle.rt_past.specs.Past.{Past}
use Rattle.rt_safety.proofs.SuccessEnds.{step_of, settled_reply}
use Rattle.rt_store.specs.Answers.{after_call, answer_of, reading}
use Rattle.rt_store.specs.Calls.{answer_on, told_on}
use Rattle.rt_store.specs.Meaning.{Told}
use Rattle.rt_store.specs.Memory.{means}
use Rattle.rt_store.specs.declared.refused.StoreRefused.{StoreRefused}
use Rattle.rt_store.specs.declared.refused.StoreRefused.TheVariants.{NoNode, Exists, VersionChanged, Failed, Memory}
use Rattle.rt_store.proofs.Told.{answered_wrote, read_on, read_same}
use Rattle.rt_heal.specs.Dropped.{NoneConsumes}
use Rattle.rt_heal.proofs.Stopping.{offline_not}

-- ---- entries

of_instance : (p : Partition) (q : Sequence) (i : Instance) (e : IdealEntry) → e.partition ≡ p → e.sequence ≡ q → e.instance ≡ i → is_of_instance p q i e ≡ true
of_instance p q i e a b c =
    and_from (is_of p q e) (e.instance.0 == i.0)
    (and_from (e.partition.0 == p.0) (e.sequence.0 == q.0) (eq-eqb e.partition.0 p.0 (ap (λ (x : Partition). x.0) a))
    (eq-eqb e.sequence.0 q.0 (ap (λ (x : Sequence). x.0) b)))
    (eq-eqb e.instance.0 i.0 (ap (λ (x : Instance). x.0) c))

any_none : (f : IdealEntry → Bool) (es : List IdealEntry) (e : IdealEntry) → list_any f es ≡ false → Has es e → f e ≡ false
any_none f [] e none has = absurd has
any_none f (x ∷ es) e none (inl same) = ap f (sym same) ∙ (or_parts (f x) (list_any f es) none).0
any_none f (x ∷ es) e none (inr has) = any_none f es e (or_parts (f x) (list_any f es) none).1 has

unchanged_none : (es : List IdealEntry) (p : Partition) (q : Sequence) (i : Instance) → offline_changes es p q i ≡ false → NoneConsumes es p q i
unchanged_none es p q i none e has a b c d =
    true≢false
    (sym (and_from (is_of_instance p q i e) (is_consuming e.mode) (of_instance p q i e a b c) (ap is_consuming d))
    ∙ any_none (λ x. is_of_instance p q i x && is_consuming x.mode) es e none has)

set_none : (es : List IdealEntry) (p : Partition) (q : Sequence) (i : Instance) → NoneConsumes (set_offline_of es p q i) p q i
set_none es p q i e has a b c d = let x = Has-map (turned_offline p q i) es e has in by_test x.0 x.2 (is_of_instance p q i x.0) refl
  where
    by_test : (x : IdealEntry) → turned_offline p q i x ≡ e → (t : Bool) → is_of_instance p q i x ≡ t → ⊥
    by_test x made true is =
        offline_not x.mode
        (sym (ap (λ (y : IdealEntry). y.mode) (cond-true (is_of_instance p q i x) (record x { mode = offline_mode x.mode }) x is))
        ∙ ap (λ (y : IdealEntry). y.mode) made ∙ d)
    by_test x made false is =
        let same : x ≡ e = sym (cond-false (is_of_instance p q i x) (record x { mode = offline_mode x.mode }) x is) ∙ made in
        true≢false (sym (of_instance p q i e a b c) ∙ ap (is_of_instance p q i) (sym same) ∙ is)

-- ---- a step of a job that commits nothing

module _ (t : Told) (q : Asked) (x : Stepping) (processed : x.did.status ≡ Some status.Processed) where
  abbrev Free : List Seen → Type 0
  Free h = NoneConsumes (entries_of h) q.partition q.sequence q.number.instance

  -- the status of a step
  status_is : (y : Stepping) (r : Option ReplyStatus) → y.did.status ≡ r → Some y ≡ Some x → r ≡ Some status.Processed
  status_is y r at e = sym at ∙ ap (λ (z : Stepping). z.did.status) (same_Some y x e) ∙ processed

  read_processed : (w : Work) (found : List ℕ) (r : Result Seen StoreRefused) → is_commit w ≡ false → answer_on t (reading key.Ideal) ≡ r
      → after_read q w found r ≡ Some x → Free t.writes
  read_processed (work.Commit done) found r own given made = absurd (true≢false own)
  read_processed work.Offline found (Ok ideal) own given made =
      by_change (offline_changes (entries_by ideal.node) q.partition q.sequence q.number.instance) refl made
    where
      now : entries_of t.writes ≡ entries_by ideal.node
      now = ap entries_in (value_of-last t.writes key.Ideal ideal (read_on t key.Ideal ideal given).2).0

      by_change : (b : Bool) → offline_changes (entries_by ideal.node) q.partition q.sequence q.number.instance ≡ b
          → cond b (goes (stage.IdealSet work.Offline found ideal) name.IdealRead outcome.Fine) (ends name.IdealRead outcome.Same status.Processed) ≡ Some x
          → Free t.writes
      by_change true none e = absurd (none-some status.Processed (status_is _ None refl e))
      by_change false none e =
          subst (λ (es : List IdealEntry). NoneConsumes es q.partition q.sequence q.number.instance) (sym now)
          (unchanged_none (entries_by ideal.node) q.partition q.sequence q.number.instance none)
  read_processed work.Offline found (Err NoNode) own given made = let g = status_is _ _ refl made in absurd (cc)
  read_processed work.Offline found (Err (Exists version)) own given made = let g = status_is _ _ refl made in absurd (cc)
  read_processed work.Offline found (Err (VersionChanged expected version)) own given made = let g = status_is _ _ refl made in absurd (cc)
  read_processed work.Offline found (Err Failed) own given made = let g = status_is _ _ refl made in absurd (cc)
  read_processed work.Offline found (Err Memory) own given made = absurd (none-some x made)

  set_processed : (a : Assigned) (w : Work) (found : List ℕ) (ideal : Seen) (r : Result ℕ StoreRefused) → is_commit w ≡ false → ideal.key ≡ key.Ideal
      → answer_on t (answer_of (λ (v : Seen). v.version) (set ideal (ideal_node a q w ideal))) ≡ r → after_set w found r ≡ Some x
      → Free (told_on t (after_call (set ideal (ideal_node a q w ideal)))).writes
  set_processed a (work.Commit done) found ideal r own at given made = absurd (true≢false own)
  set_processed a work.Offline found ideal (Ok version) own at given made =
      let call = set ideal (ideal_node a q work.Offline ideal) in
      let wrote = answered_wrote t call (λ (v : Seen). v.version) version given in
      let new : entries_of (told_on t (after_call call)).writes ≡ set_offline_of (entries_by ideal.node) q.partition q.sequence q.number.instance =
      ap entries_of wrote.writes ∙ ap entries_in (last_write-more t.writes (written_by t.writes call) key.Ideal at) in
      subst (λ (es : List IdealEntry). NoneConsumes es q.partition q.sequence q.number.instance) (sym new)
      (set_none (entries_by ideal.node) q.partition q.sequence q.number.instance)
  set_processed a work.Offline found ideal (Err NoNode) own at given made = let g = status_is _ _ refl made in absurd (cc)
  set_processed a work.Offline found ideal (Err (Exists version)) own at given made = let g = status_is _ _ refl made in absurd (cc)
  set_processed a work.Offline found ideal (Err (VersionChanged expected version)) own at given made = absurd (not_again (nat_lt (length found) 9) made)
    where
      not_again : (b : Bool)
          → cond b (goes (stage.IdealRead work.Offline (found ++ version ∷ [])) name.IdealSet (outcome.Changed expected version))
          (ends name.IdealSet (outcome.Changed expected version) (status.Failed (cause.IdealChanged (found ++ version ∷ [])))) ≡ Some x → ⊥
      not_again true e = none-some status.Processed (status_is _ None refl e)
      not_again false e = let g = status_is _ _ refl e in cc
  set_processed a work.Offline found ideal (Err Failed) own at given made = let g = status_is _ _ refl made in absurd (cc)
  set_processed a work.Offline found ideal (Err Memory) own at given made = absurd (none-some x made)

  stage_processed : (d : ToldDeep) (a : Assigned) (now : Moment) (from : JobStage) → IsAt t.writes q from → commits from ≡ false
      → step_at q now from (answer_to t d (call_at a q now from)) ≡ Some x → Free (store_after t (call_at a q now from)).writes
  stage_processed d a now (stage.Check from end path) at own made = absurd (true≢false own)
  stage_processed d a now (stage.Done from commit) at own made = absurd (true≢false own)
  stage_processed d a now (stage.Next done) at own made = absurd (true≢false own)
  stage_processed d a now (stage.IdealRead w found) at own made =
      subst Free (sym (read_same t)) (read_processed w found (answer_on t (reading key.Ideal)) own refl made)
  stage_processed d a now (stage.IdealSet w found ideal) at own made = set_processed a w found ideal _ own at.is_ideal refl made
  stage_processed d a now stage.Ended at own made = absurd at

-- ---- a controller's job

pub stop_processed : (setup : Setup) (past : Past) (t u : Told) (d e : ToldDeep) (c new : Controlling) (j : ℕ) (job : Job) (now : Moment) (did : JobStep) (r : Reply)
    → past.history ≡ t.writes → IsControllerOver setup past c → Works (means t) (means u) (deep_means d) (deep_means e) c j now new (Ok did)
    → job_of c j ≡ Some job → commits job.stage ≡ false → did.reply ≡ Some r → r.status ≡ status.Processed
    → NoneConsumes (entries_of u.writes) job.asked.partition job.asked.sequence job.asked.number.instance
stop_processed setup past t u d e c new j job now did r same over works opened own replied processed =
    let v : Working = record { controller = new; step = did } in
    let left = told_work t u d e c j now v works in
    let k = step_of c j now (answer_to t d (work_call c j now)) v left.made in
    let lasts = All-found (IsJobOver setup past) c.jobs k.place k.job over.jobs k.there in
    let is : k.job ≡ job = same_Some k.job job (sym (ap (job_at c.jobs) k.found ∙ k.there) ∙ opened) in
    let tells : k.x.did.status ≡ Some status.Processed =
    settled_reply (with_stage c k.place k.job k.x.stage) k.place k.job.asked (commits k.job.stage) k.x.did k.x.did.status r
    (sym (ap (λ (z : Working). z.step.reply) k.same) ∙ replied) ∙ ap (λ z. Some z) processed in
    let call : work_call c j now ≡ call_at c.assigned k.job.asked now k.job.stage =
    ap (work_call_on c now) k.found ∙ ap (work_call_at c now) k.there in
    let at = subst (λ (h : List Seen). IsAt h k.job.asked k.job.stage) same lasts.job.at in
    let none = stage_processed t k.job.asked k.x tells d c.assigned now k.job.stage at (ap (λ (z : Job). commits z.stage) is ∙ own)
    (ap (λ z. step_at k.job.asked now k.job.stage (answer_to t d z)) (sym call) ∙ k.made) in
    let written : u.writes ≡ (store_after t (call_at c.assigned k.job.asked now k.job.stage)).writes =
    ap (λ (z : Told). z.writes) left.store ∙ ap (λ z. (store_after t z).writes) call in
    subst (λ (z : Job). NoneConsumes (entries_of u.writes) z.asked.partition z.asked.sequence z.asked.number.instance) is
    (subst (λ (z : List Seen). NoneConsumes (entries_of z) k.job.asked.partition k.job.asked.sequence k.job.asked.number.instance) (sym written) none)
