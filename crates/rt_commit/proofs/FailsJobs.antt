-- A job's step fails only by a fault of a store.
use Rattle.std.proofs.Common.{◌≡◌, ℕ, inl, inr, Bool, true, false, cond, List, [], ◌∷◌, ◌++◌, Option, Some, None, Result, Ok, Err, nat_lt, length, ◌∙◌, ap, subst}
use Rattle.rt_base.proofs.Planned.{without_fault}
use Rattle.rt_base.specs.declared.header.Header.{Header}
use Rattle.rt_base.specs.declared.numbers.Moment.{Moment}
use Rattle.rt_base.specs.declared.numbers.Offset.{Offset}
use Rattle.rt_model.specs.declared.asked.Asked.{Asked}
use Rattle.rt_model.specs.declared.commit.Commit.{Commit}
use Rattle.rt_model.specs.declared.job_step.StepName.{StepName}
use Rattle.rt_model.specs.declared.job_step.StepName.TheVariants as name
use Rattle.rt_model.specs.declared.job_step.StepOutcome.{StepOutcome}
use Rattle.rt_model.specs.declared.job_step.StepOutcome.TheVariants as outcome
use Rattle.rt_model.specs.declared.node.Key.TheVariants as key
use Rattle.rt_model.specs.declared.node.Node.{Node}
use Rattle.rt_model.specs.declared.node.Seen.{Seen}
use Rattle.rt_model.specs.declared.reply.FailCause.TheVariants as cause
use Rattle.rt_model.specs.declared.reply.ReplyStatus.{ReplyStatus}
use Rattle.rt_model.specs.declared.reply.ReplyStatus.TheVariants as status
use Rattle.rt_model.specs.Entries.{entries_by}
use Rattle.rt_model.specs.Lawful.{set, create_after, IsLawfulHistory}
use Rattle.rt_model.specs.Starting.{Starting}
use Rattle.rt_deep.specs.declared.deep_put.DeepPut.{DeepPut}
use Rattle.rt_deep.specs.declared.refused.DeepRefused.{DeepRefused}
use Rattle.rt_deep.specs.declared.refused.DeepRefused.TheVariants as deep
use Rattle.rt_deep.specs.Answers.{getting}
use Rattle.rt_deep.specs.Answers as of_answers
use Rattle.rt_deep.specs.Calls as of_deep
use Rattle.rt_deep.specs.Files.{file_of}
use Rattle.rt_deep.proofs.Told.{get_rose}
use Rattle.rt_store.specs.declared.refused.StoreRefused.{StoreRefused}
use Rattle.rt_store.specs.declared.refused.StoreRefused.TheVariants.{NoNode, Exists, VersionChanged, Failed, Memory}
use Rattle.rt_store.specs.Calls.{Reads, SetsFrom, CreatesAfter}
use Rattle.rt_store.specs.Meaning.{Meaning}
use Rattle.rt_store.proofs.Told.{read_rose, write_rose}
use Rattle.rt_store.proofs.Refusals.{read_no_node, read_exists, read_changed, set_exists, set_no_node}
use Rattle.rt_past.specs.Files.{header_in}
use Rattle.rt_znodes.specs.Znodes.{meta_in}
use Rattle.rt_commit.specs.declared.job.JobStage.TheVariants as stage
use Rattle.rt_commit.specs.declared.job.JobStage.{JobStage}
use Rattle.rt_commit.specs.declared.work.Work.{Work}
use Rattle.rt_commit.specs.Assignment.{Assigned}
use Rattle.rt_commit.specs.Calls.{Makes, DeepMeaning}
use Rattle.rt_commit.specs.Causes.{Rose}
use Rattle.rt_commit.specs.IsJob.{IsAt}
use Rattle.rt_commit.specs.Job.{Stepping, goes, ends, is_wanted, commit_of, bad, checked, after_get, done_node, after_done, next_key, next_node, after_next, changes, success, after_read, after_set, call_at, step_at}
use Rattle.rt_commit.proofs.KeepsJobs.{same_step}

-- ---- what isn't a failure

abbrev pub IsNoFailure : StepOutcome → Type 0
IsNoFailure outcome.Fine = Unit {0}
IsNoFailure outcome.Exists = Unit {0}
IsNoFailure (outcome.Changed expected found) = Unit {0}
IsNoFailure outcome.NoNode = Unit {0}
IsNoFailure outcome.Bad = Unit {0}
IsNoFailure outcome.Same = Unit {0}
IsNoFailure outcome.Gone = Unit {0}
IsNoFailure outcome.Failed = ⊥

-- a step that went on didn't fail
fine_went : (s : JobStage) (n : StepName) (o : StepOutcome) (x : Stepping) → IsNoFailure o → goes s n o ≡ Some x → x.did.outcome ≡ outcome.Failed → ⊥
fine_went s n o x fine e f =
    subst IsNoFailure (ap (λ (y : Stepping). y.did.outcome) (same_step _ x e) ∙ f) fine

fine_ended : (n : StepName) (o : StepOutcome) (r : ReplyStatus) (x : Stepping) → IsNoFailure o → ends n o r ≡ Some x → x.did.outcome ≡ outcome.Failed → ⊥
fine_ended n o r x fine e f =
    subst IsNoFailure (ap (λ (y : Stepping). y.did.outcome) (same_step _ x e) ∙ f) fine

-- ---- check

-- a get is never refused by other bytes
abbrev other_bytes : List ℕ → List ℕ → Result (List ℕ) DeepRefused
other_bytes kept offered = Err (deep.OtherBytes kept offered)

found_other : (o : Option DeepPut) (kept offered : List ℕ) → other_bytes kept offered ≡ of_answers.found_in o → ⊥
found_other None kept offered e = cc
found_other (Some file) kept offered e = cc

pub get_other : (d e : DeepMeaning) (path kept offered : List ℕ) → of_deep.Gets d e path (Err (deep.OtherBytes kept offered)) → ⊥
get_other d e path kept offered c =
    let told = without_fault deep.Failed c.fault (getting path c.base) (Err (deep.OtherBytes kept offered)) c.base c.base e.seen
    (λ is. cc) c.goes.answered c.goes.seen in
    found_other (file_of c.base path) kept offered told.0

fails_check : (q : Asked) (from : Seen) (end : Offset) (path : List ℕ) (o : Option Header) (x : Stepping)
    → checked q from end path o ≡ Some x → x.did.outcome ≡ outcome.Failed → ⊥
fails_check q from end path None x e f = fine_ended name.Check outcome.Bad _ x tt e f
fails_check q from end path (Some h) x e f = by_test (is_wanted q (meta_in from.node).start end h) e
  where
    by_test :
        (b : Bool)
        → cond b (goes (stage.Done from (commit_of end path h)) name.Check outcome.Fine) (bad q from end (Some h)) ≡ Some x → ⊥
    by_test true g = fine_went (stage.Done from (commit_of end path h)) name.Check outcome.Fine x tt g f
    by_test false g = fine_ended name.Check outcome.Bad _ x tt g f

fails_get : (s t : Meaning) (d e : DeepMeaning) (q : Asked) (from : Seen) (end : Offset) (path : List ℕ) (answer : Result (List ℕ) DeepRefused) (x : Stepping)
    → of_deep.Gets d e path answer → after_get q from end path answer ≡ Some x → x.did.outcome ≡ outcome.Failed → Rose s t d e
fails_get s t d e q from end path (Ok bytes) x c is f = absurd (fails_check q from end path (header_in bytes) x is f)
fails_get s t d e q from end path (Err deep.Absent) x c is f = absurd (fine_ended name.Check outcome.Bad _ x tt is f)
fails_get s t d e q from end path (Err (deep.OtherBytes kept offered)) x c is f = absurd (get_other d e path kept offered c)
fails_get s t d e q from end path (Err deep.Failed) x c is f = inr (get_rose d e path c)
fails_get s t d e q from end path (Err deep.Memory) x c is f = absurd (cc)

-- ---- done and next

fails_done : (s t : Meaning) (d e : DeepMeaning) (from : Seen) (commit : Commit) (now : Moment) (answer : Result ℕ StoreRefused) (x : Stepping)
    → SetsFrom s t from (done_node from commit now) answer → after_done from commit now answer ≡ Some x
    → x.did.outcome ≡ outcome.Failed → Rose s t d e
fails_done s t d e from commit now (Ok version) x c is f = absurd (fine_went _ name.Done outcome.Fine x tt is f)
fails_done s t d e from commit now (Err NoNode) x c is f = absurd (fine_ended name.Done outcome.NoNode _ x tt is f)
fails_done s t d e from commit now (Err (Exists found)) x c is f = absurd (set_exists s t from (done_node from commit now) found c)
fails_done s t d e from commit now (Err (VersionChanged expected found)) x c is f =
    absurd (fine_ended name.Done (outcome.Changed expected found) _ x tt is f)
fails_done s t d e from commit now (Err Failed) x c is f = inl (write_rose (λ w. w.version) s t (set from (done_node from commit now)) c)
fails_done s t d e from commit now (Err Memory) x c is f = absurd (cc)

fails_next : (s t : Meaning) (d e : DeepMeaning) (a : Assigned) (q : Asked) (now : Moment) (done : Seen) (answer : Result (Unit {0}) StoreRefused) (x : Stepping)
    → CreatesAfter s t (next_key q) (next_node a q now done) done answer → after_next done answer ≡ Some x
    → x.did.outcome ≡ outcome.Failed → Rose s t d e
fails_next s t d e a q now done (Ok u) x c is f = absurd (fine_went _ name.Next outcome.Fine x tt is f)
fails_next s t d e a q now done (Err NoNode) x c is f = absurd (fine_ended name.Next outcome.Gone _ x tt is f)
fails_next s t d e a q now done (Err (Exists found)) x c is f = absurd (fine_went _ name.Next outcome.Exists x tt is f)
fails_next s t d e a q now done (Err (VersionChanged expected found)) x c is f =
    absurd (fine_ended name.Next (outcome.Changed expected found) _ x tt is f)
fails_next s t d e a q now done (Err Failed) x c is f =
    inl (write_rose (λ w. tt) s t (create_after (next_key q) (next_node a q now done) done) c)
fails_next s t d e a q now done (Err Memory) x c is f = absurd (cc)

-- ---- the ideal state

fails_read : (st : Starting) (s t : Meaning) (d e : DeepMeaning) (q : Asked) (w : Work) (found : List ℕ) (answer : Result Seen StoreRefused) (x : Stepping)
    → IsLawfulHistory st s.seen → Reads s t key.Ideal answer → after_read q w found answer ≡ Some x
    → x.did.outcome ≡ outcome.Failed → Rose s t d e
fails_read st s t d e q w found (Ok ideal) x l c is f = absurd (by_test (changes q w (entries_by ideal.node)) is)
  where
    by_test :
        (b : Bool)
        → cond b (goes (stage.IdealSet w found ideal) name.IdealRead outcome.Fine) (ends name.IdealRead outcome.Same (success w)) ≡ Some x → ⊥
    by_test true g = fine_went (stage.IdealSet w found ideal) name.IdealRead outcome.Fine x tt g f
    by_test false g = fine_ended name.IdealRead outcome.Same (success w) x tt g f
fails_read st s t d e q w found (Err NoNode) x l c is f = absurd (read_no_node st s t l c)
fails_read st s t d e q w found (Err (Exists version)) x l c is f = absurd (read_exists s t key.Ideal version c)
fails_read st s t d e q w found (Err (VersionChanged expected version)) x l c is f =
    absurd (read_changed s t key.Ideal expected version c)
fails_read st s t d e q w found (Err Failed) x l c is f = inl (read_rose s t key.Ideal c)
fails_read st s t d e q w found (Err Memory) x l c is f = absurd (cc)

fails_set : (st : Starting) (s t : Meaning) (d e : DeepMeaning) (w : Work) (found : List ℕ) (ideal : Seen) (n : Node) (answer : Result ℕ StoreRefused) (x : Stepping)
    → IsLawfulHistory st s.seen → ideal.key ≡ key.Ideal → SetsFrom s t ideal n answer → after_set w found answer ≡ Some x
    → x.did.outcome ≡ outcome.Failed → Rose s t d e
fails_set st s t d e w found ideal n (Ok version) x l at c is f = absurd (fine_ended name.IdealSet outcome.Fine (success w) x tt is f)
fails_set st s t d e w found ideal n (Err NoNode) x l at c is f = absurd (set_no_node st s t ideal n l at c)
fails_set st s t d e w found ideal n (Err (Exists version)) x l at c is f = absurd (set_exists s t ideal n version c)
fails_set st s t d e w found ideal n (Err (VersionChanged expected version)) x l at c is f =
    absurd (by_test (nat_lt (length found) 9) is)
  where
    by_test :
        (b : Bool)
        → cond b
        (goes (stage.IdealRead w (found ++ version ∷ [])) name.IdealSet (outcome.Changed expected version))
        (ends name.IdealSet (outcome.Changed expected version) (status.Failed (cause.IdealChanged (found ++ version ∷ []))))
        ≡ Some x → ⊥
    by_test true g = fine_went (stage.IdealRead w (found ++ version ∷ [])) name.IdealSet (outcome.Changed expected version) x tt g f
    by_test false g = fine_ended name.IdealSet (outcome.Changed expected version) _ x tt g f
fails_set st s t d e w found ideal n (Err Failed) x l at c is f = inl (write_rose (λ x. x.version) s t (set ideal n) c)
fails_set st s t d e w found ideal n (Err Memory) x l at c is f = absurd (cc)

-- ---- a step

pub fails_stage : (st : Starting) (s t : Meaning) (d e : DeepMeaning) (a : Assigned) (q : Asked) (now : Moment) (x : Stepping) (from : JobStage)
    → IsLawfulHistory st s.seen → IsAt s.seen q from
    → Makes s t d e (call_at a q now from) (λ answer. step_at q now from answer ≡ Some x)
    → x.did.outcome ≡ outcome.Failed → Rose s t d e
fails_stage st s t d e a q now x (stage.Check from end path) l k (answer, c, same, is) f = fails_get s t d e q from end path answer x c is f
fails_stage st s t d e a q now x (stage.Done from commit) l k (answer, c, same, is) f = fails_done s t d e from commit now answer x c is f
fails_stage st s t d e a q now x (stage.Next done) l k (answer, c, same, is) f = fails_next s t d e a q now done answer x c is f
fails_stage st s t d e a q now x (stage.IdealRead w found) l k (answer, c, same, is) f = fails_read st s t d e q w found answer x l c is f
fails_stage st s t d e a q now x (stage.IdealSet w found ideal) l k (answer, c, same, is) f =
    fails_set st s t d e w found ideal _ answer x l k.is_ideal c is f
fails_stage st s t d e a q now x stage.Ended l k m f = absurd k
