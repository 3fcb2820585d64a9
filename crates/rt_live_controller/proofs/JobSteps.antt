-- A step of a controller's job: which job it is, what becomes of it, and what it writes.
use Rattle.std.proofs.Common.{◌≡◌, ℕ, Bool, true, false, cond, List, [], ◌∷◌, Option, Some, None, Result, Ok, bytes_eq, refl, sym, ◌∙◌, ap, subst}
use Rattle.std.specs.Prelude.{All, slice_get}
use Rattle.std.proofs.lemmas.List.Elements.{All-append, All-set, All-weaker}
use Rattle.std.proofs.lemmas.Option.{none-some, same_Some}
use Rattle.std.proofs.lemmas.Slice.Eq.{bytes_eq-Decides}
use Rattle.rt_base.specs.declared.header.Header.{Header}
use Rattle.rt_base.specs.declared.numbers.Moment.{Moment}
use Rattle.rt_base.specs.declared.numbers.Offset.{Offset}
use Rattle.rt_base.specs.declared.numbers.Partition.{Partition}
use Rattle.rt_base.specs.declared.numbers.Sequence.{Sequence}
use Rattle.rt_commit.specs.Assignment.{Assigned}
use Rattle.rt_commit.specs.Calls.{Answer, DeepMeaning, Makes, created, got, read}
use Rattle.rt_commit.specs.Calls as calls
use Rattle.rt_commit.specs.IsJob.{IsAt}
use Rattle.rt_commit.specs.Job.{Stepping, after_set, at_stage, call_at, commits, job_call, job_step, step_at}
use Rattle.rt_commit.specs.Laws.{EndsOrGoesOn}
use Rattle.rt_commit.specs.Own.{HasReadFile, IsOwnMeta, IsOwnNode, IsOwnStatus, OwnsMore}
use Rattle.rt_commit.specs.declared.job.Job.{Job}
use Rattle.rt_commit.specs.declared.job.JobStage.{JobStage}
use Rattle.rt_commit.specs.declared.job.JobStage.TheVariants as stage
use Rattle.rt_commit.specs.declared.work.Work.{Work}
use Rattle.rt_commit.proofs.Ending.{by_set}
use Rattle.rt_commit.proofs.Making.{makes_some}
use Rattle.rt_commit.proofs.Owns.{owns_same, owns_step}
use Rattle.rt_commit.proofs.Replying.{tells_done, tells_get, tells_next, tells_read}
use Rattle.rt_controller.specs.Controller.{Controlling}
use Rattle.rt_controller.specs.Steps.{Works}
use Rattle.rt_controller.specs.Working.{Working, job_place, settled, with_stage, work_at, work_call_at, work_call_on, work_on, worked}
use Rattle.rt_controller.proofs.Keeps.{All-remove_set}
use Rattle.rt_deep.specs.declared.deep_put.DeepPut.{DeepPut}
use Rattle.rt_model.specs.declared.asked.Asked.{Asked}
use Rattle.rt_model.specs.declared.commit.Commit.{Commit}
use Rattle.rt_model.specs.declared.job_step.JobStep.{JobStep}
use Rattle.rt_model.specs.declared.job_step.StepOutcome.{StepOutcome}
use Rattle.rt_model.specs.declared.node.Key.{Key}
use Rattle.rt_model.specs.declared.node.Key.TheVariants as key
use Rattle.rt_model.specs.declared.node.Node.{Node}
use Rattle.rt_model.specs.declared.node.Node.TheVariants as node
use Rattle.rt_model.specs.declared.node.Seen.{Seen}
use Rattle.rt_model.specs.declared.reply.ReplyStatus.{ReplyStatus}
use Rattle.rt_model.specs.declared.seg_meta.SegMeta.{SegMeta}
use Rattle.rt_model.specs.declared.status.Status.{Status}
use Rattle.rt_model.specs.declared.status.Status.TheVariants.{Abandoned, Done, InProgress}
use Rattle.rt_past.specs.Files.{header_in, header_named}
use Rattle.rt_past.specs.View.{IsNamed}
use Rattle.rt_store.specs.Meaning.{Meaning, Own}
use Rattle.rt_store.specs.declared.refused.StoreRefused.{StoreRefused}
use Rattle.rt_znodes.specs.Znodes.{meta_in}
use Rattle.rt_live_controller.specs.Begun.{HasBegun, HasCommitted, HasMeta, HasWritten}

-- ---- which job it is

pub record IsStep (s t : Meaning) (d e : DeepMeaning) (c : Controlling) (n : ℕ) (now : Moment) (w : Working) : Type 0 where
  pub place : ℕ
  pub job : Job
  pub x : Stepping
  pub at : slice_get c.jobs place ≡ Some job
  pub made : Makes s t d e (job_call c.assigned job now) (λ answer. job_step job now answer ≡ Some x)
  pub leaves : settled (with_stage c place job x.stage) place job.asked (commits job.stage) x.did x.did.status ≡ w

module _ (s t : Meaning) (d e : DeepMeaning) (c : Controlling) (n : ℕ) (now : Moment) where
  at_slot : (place : ℕ) (o : Option Job) (w : Working) → slice_get c.jobs place ≡ o
      → Makes s t d e (work_call_at c now o) (λ a. work_at c now a place o ≡ Some w) → IsStep s t d e c n now w
  at_slot place None w at m = absurd (none-some w m.2)
  at_slot place (Some j) w at m =
      let x = makes_some s t d e (job_call c.assigned j now) (job_step j now) (λ o. worked c place j o ≡ Some w) (λ f. none-some w f) m in
      record { place = place; job = j; x = x.0; at = at; made = x.1; leaves = same_Some _ w x.2 }

  at_place : (o : Option ℕ) (w : Working) → Makes s t d e (work_call_on c now o) (λ a. work_on c now a o ≡ Some w) → IsStep s t d e c n now w
  at_place None w m = absurd (none-some w m.2)
  at_place (Some place) w m = at_slot place (slice_get c.jobs place) w refl m

  pub step_is : (new : Controlling) (step : JobStep) → Works s t d e c n now new (Ok step)
      → IsStep s t d e c n now (record { controller = new; step = step })
  step_is new step h = at_place (job_place c.jobs n) (record { controller = new; step = step }) h

-- ---- what becomes of the jobs

settled_all : (P : Job → Type 0) (c : Controlling) (place : ℕ) (j : Job) (x : Stepping) (o : Option ReplyStatus)
    → All P c.jobs → P (at_stage j x.stage) → All P (settled (with_stage c place j x.stage) place j.asked (commits j.stage) x.did o).controller.jobs
settled_all P c place j x None all p = All-set P c.jobs place (at_stage j x.stage) p all
settled_all P c place j x (Some r) all p = All-remove_set P c.jobs place (at_stage j x.stage) all

pub step_all : (P : Job → Type 0) (s t : Meaning) (d e : DeepMeaning) (c : Controlling) (n : ℕ) (now : Moment) (w : Working)
    (k : IsStep s t d e c n now w) → All P c.jobs → P (at_stage k.job k.x.stage) → All P w.controller.jobs
step_all P s t d e c n now w k all p =
    subst (λ (v : Working). All P v.controller.jobs) k.leaves (settled_all P c k.place k.job k.x k.x.did.status all p)

-- ---- how a job began

module _ (Was : Partition → Sequence → Offset → List ℕ → Type 0) (q : Asked) (now : Moment) where
  abbrev Begun : JobStage → Type 0
  Begun to = HasBegun Was q to

  abbrev Reaches : Stepping → Type 0
  Reaches x = Begun x.stage

  goes_to : (to other : JobStage) → to ≡ other → Begun other → Begun to
  goes_to to other is k = subst Begun (sym is) k

  after_check : (from : Seen) (end : Offset) (path : List ℕ) (answer : Answer) (o : StepOutcome) (how : Option ReplyStatus) (to : JobStage)
      → Was q.partition q.sequence end path → EndsOrGoesOn q now (stage.Check from end path) answer o how to → Begun to
  after_check from end path answer o None to k (bytes, commit, answered, fine, end_is, path_is, header, is) =
      goes_to to (stage.Done from commit) is
      (subst (λ (x : Offset). Was q.partition q.sequence x commit.path) (sym end_is)
      (subst (Was q.partition q.sequence end) (sym path_is) k))
  after_check from end path answer o (Some r) to k g = goes_to to stage.Ended g.1 tt

  after_write : (from : Seen) (commit : Commit) (answer : Answer) (o : StepOutcome) (how : Option ReplyStatus) (to : JobStage)
      → EndsOrGoesOn q now (stage.Done from commit) answer o how to → Begun to
  after_write from commit answer o None to (version, answered, fine, is) = goes_to to _ is tt
  after_write from commit answer o (Some r) to g = goes_to to stage.Ended g.1 tt

  after_creation : (done : Seen) (answer : Answer) (o : StepOutcome) (how : Option ReplyStatus) (to : JobStage)
      → EndsOrGoesOn q now (stage.Next done) answer o how to → Begun to
  after_creation done answer o None to g = goes_to to _ g.1 tt
  after_creation done answer o (Some r) to g = goes_to to stage.Ended g.1 tt

  after_ideal : (w : Work) (found : List ℕ) (answer : Answer) (o : StepOutcome) (how : Option ReplyStatus) (to : JobStage)
      → EndsOrGoesOn q now (stage.IdealRead w found) answer o how to → Begun to
  after_ideal w found answer o None to (ideal, answered, changed, fine, is) = goes_to to _ is tt
  after_ideal w found answer o (Some r) to g = goes_to to stage.Ended g.1 tt

  after_change : (w : Work) (found : List ℕ) (answer : Result ℕ StoreRefused) (x : Stepping) → after_set w found answer ≡ Some x → Reaches x
  after_change w found answer x f = by_set w found (λ to how. Begun to) (λ more. tt) (λ because. tt) tt answer x f

  pub begun_on : (s t : Meaning) (d e : DeepMeaning) (a : Assigned) (from : JobStage) (x : Stepping) → Begun from
      → Makes s t d e (call_at a q now from) (λ answer. step_at q now from answer ≡ Some x) → Reaches x
  begun_on s t d e a (stage.Check from end path) x k (answer, c, same, f) =
      after_check from end path (got answer) x.did.outcome x.did.status x.stage k (tells_get q now from end path x answer f).1
  begun_on s t d e a (stage.Done from commit) x k (answer, c, same, f) =
      after_write from commit (calls.set answer) x.did.outcome x.did.status x.stage (tells_done q now from commit x answer f).1
  begun_on s t d e a (stage.Next done) x k (answer, c, same, f) =
      after_creation done (created answer) x.did.outcome x.did.status x.stage (tells_next q now done x answer f).1
  begun_on s t d e a (stage.IdealRead w found) x k (answer, c, same, f) =
      after_ideal w found (read answer) x.did.outcome x.did.status x.stage (tells_read q now w found x answer f).1
  begun_on s t d e a (stage.IdealSet w found ideal) x k (answer, c, same, f) = after_change w found answer x f
  begun_on s t d e a stage.Ended x k m = absurd (none-some x m.2)

-- ---- what becomes the caller's own

pub owned_all : (P : Seen → Type 0) (o n : Own) → OwnsMore P (Some o) (Some n) → All P o.writes → All P n.writes
owned_all P o n (more, is, all) was =
    subst (All P) (sym (ap (λ (x : Own). x.writes) (same_Some n _ is))) (All-append P o.writes more was all)

owns_weaker : (P Q : Seen → Type 0) (o n : Option Own) → ((w : Seen) → P w → Q w) → OwnsMore P o n → OwnsMore Q o n
owns_weaker P Q None n weaker owns = owns
owns_weaker P Q (Some o) n weaker (more, is, all) = (more, is, All-weaker P Q weaker more all)

-- a deep store that holds these files
abbrev holding : List DeepPut → DeepMeaning
holding files = record { told = None; seen = files; own = None; faults = 0 }

abbrev file_at : List ℕ → List ℕ → DeepPut
file_at path bytes = record { path = path; bytes = bytes }

found_one : (path bytes : List ℕ) (b : Bool) → b ≡ true → cond b (Some (file_at path bytes)) None ≡ Some (file_at path bytes)
found_one path bytes true e = refl
found_one path bytes false e = absurd (cc)

one_found : (f : DeepPut) (path bytes : List ℕ) (b : Bool) → cond b (Some f) None ≡ Some (file_at path bytes) → f ≡ file_at path bytes
one_found f path bytes true e = same_Some f (file_at path bytes) e
one_found f path bytes false e = absurd (none-some (file_at path bytes) e)

module _ (Was : Partition → Sequence → Offset → List ℕ → Type 0) where
  -- each file that metadata names began so
  abbrev AreBegun : List DeepPut → Type 0
  AreBegun files = (p : Partition) (q : Sequence) (start : Offset) (commit : Commit) → IsNamed files p q start commit → Was p q commit.end commit.path

  none_begun : AreBegun []
  none_begun p q start commit named = absurd (none-some _ named.stands)

  one_begun : (bytes : List ℕ) (p : Partition) (q : Sequence) (start : Offset) (commit : Commit)
      → header_in bytes ≡ Some (header_named p q start commit) → Was p q commit.end commit.path → AreBegun (file_at commit.path bytes ∷ [])
  one_begun bytes p q start commit header was p2 q2 start2 commit2 named =
      let file = one_found (file_at commit.path bytes) commit2.path named.bytes (bytes_eq commit.path commit2.path) named.stands in
      let read : header_in bytes ≡ header_in named.bytes = ap (λ (f : DeepPut). header_in f.bytes) file in
      let same = same_Some (header_named p q start commit) (header_named p2 q2 start2 commit2) (sym header ∙ read ∙ named.header) in
      subst (Was p2 q2 commit2.end) (ap (λ (f : DeepPut). f.path) file)
      (subst (λ (x : Offset). Was p2 q2 x commit.path) (ap (λ (h : Header). h.range.end) same)
      (subst (λ (x : Sequence). Was p2 x commit.end commit.path) (ap (λ (h : Header). h.sequence) same)
      (subst (λ (x : Partition). Was x q commit.end commit.path) (ap (λ (h : Header). h.partition) same) was)))

  status_begun : (files : List DeepPut) (p : Partition) (q : Sequence) (m : SegMeta) (st : Status) → AreBegun files → IsOwnStatus files p q m st
      → HasCommitted Was p q st
  status_begun files p q m InProgress are own = tt
  status_begun files p q m (Done commit) are own = are p q m.start commit own
  status_begun files p q m Abandoned are own = tt

  meta_begun : (files : List DeepPut) (k : Key) (m : SegMeta) → AreBegun files → IsOwnMeta files k m → HasMeta Was k m
  meta_begun files (key.Meta p q) m are own = status_begun files p q m m.status are own
  meta_begun files key.Ideal m are own = tt
  meta_begun files (key.Boot i) m are own = tt

  node_begun : (files : List DeepPut) (k : Key) (n : Node) → AreBegun files → IsOwnNode files k n → HasWritten Was k n
  node_begun files k (node.Meta m) are own = meta_begun files k m are own
  node_begun files k (node.Ideal state) are own = tt
  node_begun files k node.Boot are own = tt
  node_begun files k node.Gone are own = tt

  abbrev Wrote : Seen → Type 0
  Wrote w = HasWritten Was w.key w.node

  module _ (s t : Meaning) (d e : DeepMeaning) (a : Assigned) (q : Asked) (now : Moment) where
    -- over these files alone
    over : (files : List DeepPut) (from : JobStage) (x : Stepping) → AreBegun files → IsAt s.seen q from → HasReadFile files q from
        → Makes s t (holding files) (holding files) (call_at a q now from) (λ answer. step_at q now from answer ≡ Some x)
        → OwnsMore Wrote s.own t.own
    over files from x are is kept m =
        owns_weaker (λ w. IsOwnNode files w.key w.node) Wrote s.own t.own (λ w own. node_begun files w.key w.node are own)
        (owns_step s t (holding files) (holding files) a q now from x.stage (Ok x.did) is kept m)

    pub writes_begun : (from : JobStage) (x : Stepping) → IsAt s.seen q from → HasReadFile d.seen q from → HasBegun Was q from
        → Makes s t d e (call_at a q now from) (λ answer. step_at q now from answer ≡ Some x) → OwnsMore Wrote s.own t.own
    writes_begun (stage.Check from end path) x is kept was (answer, c, same, f) = owns_same Wrote s t same
    writes_begun (stage.Done from commit) x is kept was (answer, c, same, f) =
        let stands = found_one commit.path kept.bytes (bytes_eq commit.path commit.path) ((bytes_eq-Decides commit.path commit.path).1 refl) in
        over (file_at commit.path kept.bytes ∷ []) (stage.Done from commit) x
        (one_begun kept.bytes q.partition q.sequence (meta_in from.node).start commit kept.header was)
        is (record { bytes = kept.bytes; stands = stands; header = kept.header }) (answer, c, refl, f)
    writes_begun (stage.Next done) x is kept was (answer, c, same, f) = over [] (stage.Next done) x none_begun is tt (answer, c, refl, f)
    writes_begun (stage.IdealRead w found) x is kept was (answer, c, same, f) =
        over [] (stage.IdealRead w found) x none_begun is tt (answer, c, refl, f)
    writes_begun (stage.IdealSet w found ideal) x is kept was (answer, c, same, f) =
        over [] (stage.IdealSet w found ideal) x none_begun is tt (answer, c, refl, f)
    writes_begun stage.Ended x is kept was m = absurd is
