-- How long a job lives.
use Rattle.std.proofs.Common.{◌≡◌, ℕ, ◌<◌, Bool, true, false, cond, List, [], ◌∷◌, ◌++◌, Option, Some, None, Result, Ok, Err, nat_lt, length, refl, sym, subst, arith}
use Rattle.std.proofs.lemmas.Bool.{ltb-true}
use Rattle.std.proofs.lemmas.List.{length-append}
use Rattle.rt_base.specs.declared.header.Header.{Header}
use Rattle.rt_base.specs.declared.numbers.Moment.{Moment}
use Rattle.rt_base.specs.declared.numbers.Offset.{Offset}
use Rattle.rt_model.specs.declared.asked.Asked.{Asked}
use Rattle.rt_model.specs.declared.commit.Commit.{Commit}
use Rattle.rt_model.specs.declared.job_step.StepName.{StepName}
use Rattle.rt_model.specs.declared.job_step.StepName.TheVariants as name
use Rattle.rt_model.specs.declared.job_step.StepOutcome.{StepOutcome}
use Rattle.rt_model.specs.declared.job_step.StepOutcome.TheVariants as outcome
use Rattle.rt_model.specs.declared.node.Seen.{Seen}
use Rattle.rt_model.specs.declared.reply.FailCause.{FailCause}
use Rattle.rt_model.specs.declared.reply.FailCause.TheVariants as cause
use Rattle.rt_model.specs.declared.reply.ReplyStatus.{ReplyStatus}
use Rattle.rt_model.specs.declared.reply.ReplyStatus.TheVariants as status
use Rattle.rt_model.specs.Entries.{entries_by}
use Rattle.rt_deep.specs.declared.refused.DeepRefused.{DeepRefused}
use Rattle.rt_deep.specs.declared.refused.DeepRefused.TheVariants as deep
use Rattle.rt_store.specs.declared.refused.StoreRefused.{StoreRefused}
use Rattle.rt_store.specs.declared.refused.StoreRefused.TheVariants.{NoNode, Exists, VersionChanged, Failed, Memory}
use Rattle.rt_past.specs.Files.{header_in}
use Rattle.rt_znodes.specs.Znodes.{meta_in}
use Rattle.rt_commit.specs.declared.job.JobStage.TheVariants as stage
use Rattle.rt_commit.specs.declared.job.JobStage.{JobStage}
use Rattle.rt_commit.specs.declared.work.Work.TheVariants as work
use Rattle.rt_commit.specs.declared.work.Work.{Work}
use Rattle.rt_commit.specs.Calls.{Answer, nothing, put, got, read, set, created}
use Rattle.rt_commit.specs.Job.{Stepping, goes, ends, is_wanted, commit_of, bad, checked, after_get, done_write, after_done, after_next, changes, success, after_read, after_set, step_at}
use Rattle.rt_commit.specs.Lasting.{commit_end}
use Rattle.rt_commit.specs.Laws.{Move, GoesOn, IsTrying, steps_left}
use Rattle.rt_commit.proofs.KeepsJobs.{not_ended, same_step, went}

-- ---- the steps that are left

-- the job goes on, with fewer steps left, up to the same end
pub record Falls (from to : JobStage) : Type 0 where
  pub trying : IsTrying to
  pub fewer : steps_left to < steps_left from
  pub end : commit_end to ≡ commit_end from

falls_to : (from s : JobStage) (n : StepName) (o : StepOutcome) (x : Stepping) → goes s n o ≡ Some x → Falls from s → Falls from x.stage
falls_to from s n o x e k = subst (Falls from) (sym (went s n o x e)) k

falls_check : (q : Asked) (from : Seen) (end : Offset) (path : List ℕ) (o : Option Header) (x : Stepping)
    → checked q from end path o ≡ Some x → x.did.status ≡ None → Falls (stage.Check from end path) x.stage
falls_check q from end path None x e f = absurd (not_ended name.Check outcome.Bad _ x e f)
falls_check q from end path (Some h) x e f = by_test (is_wanted q (meta_in from.node).start end h) e
  where
    by_test :
        (b : Bool)
        → cond b (goes (stage.Done from (commit_of end path h)) name.Check outcome.Fine) (bad q from end (Some h)) ≡ Some x
        → Falls (stage.Check from end path) x.stage
    by_test true g =
        falls_to (stage.Check from end path) (stage.Done from (commit_of end path h)) name.Check outcome.Fine x g
        (record { trying = tt; fewer = omega arith; end = refl })
    by_test false g = absurd (not_ended name.Check outcome.Bad _ x g f)

falls_get : (q : Asked) (from : Seen) (end : Offset) (path : List ℕ) (answer : Result (List ℕ) DeepRefused) (x : Stepping)
    → after_get q from end path answer ≡ Some x → x.did.status ≡ None → Falls (stage.Check from end path) x.stage
falls_get q from end path (Ok bytes) x e f = falls_check q from end path (header_in bytes) x e f
falls_get q from end path (Err deep.Absent) x e f = absurd (not_ended name.Check outcome.Bad _ x e f)
falls_get q from end path (Err (deep.OtherBytes kept offered)) x e f = absurd (not_ended name.Check outcome.Failed _ x e f)
falls_get q from end path (Err deep.Failed) x e f = absurd (not_ended name.Check outcome.Failed _ x e f)
falls_get q from end path (Err deep.Memory) x e f = absurd (cc)

falls_done : (from : Seen) (commit : Commit) (now : Moment) (answer : Result ℕ StoreRefused) (x : Stepping)
    → after_done from commit now answer ≡ Some x → x.did.status ≡ None → Falls (stage.Done from commit) x.stage
falls_done from commit now (Ok version) x e f =
    falls_to (stage.Done from commit) (stage.Next (done_write from commit now version)) name.Done outcome.Fine x e
    (record { trying = tt; fewer = omega arith; end = refl })
falls_done from commit now (Err NoNode) x e f = absurd (not_ended name.Done outcome.NoNode _ x e f)
falls_done from commit now (Err (Exists found)) x e f = absurd (not_ended name.Done outcome.Failed _ x e f)
falls_done from commit now (Err (VersionChanged expected found)) x e f =
    absurd (not_ended name.Done (outcome.Changed expected found) _ x e f)
falls_done from commit now (Err Failed) x e f = absurd (not_ended name.Done outcome.Failed _ x e f)
falls_done from commit now (Err Memory) x e f = absurd (cc)

falls_next : (done : Seen) (answer : Result (Unit {0}) StoreRefused) (x : Stepping)
    → after_next done answer ≡ Some x → x.did.status ≡ None → Falls (stage.Next done) x.stage
falls_next done (Ok u) x e f =
    falls_to (stage.Next done) (stage.IdealRead (work.Commit done) []) name.Next outcome.Fine x e
    (record { trying = omega arith; fewer = omega arith; end = refl })
falls_next done (Err NoNode) x e f = absurd (not_ended name.Next outcome.Gone _ x e f)
falls_next done (Err (Exists found)) x e f =
    falls_to (stage.Next done) (stage.IdealRead (work.Commit done) []) name.Next outcome.Exists x e
    (record { trying = omega arith; fewer = omega arith; end = refl })
falls_next done (Err (VersionChanged expected found)) x e f =
    absurd (not_ended name.Next (outcome.Changed expected found) _ x e f)
falls_next done (Err Failed) x e f = absurd (not_ended name.Next outcome.Failed _ x e f)
falls_next done (Err Memory) x e f = absurd (cc)

falls_read : (q : Asked) (w : Work) (found : List ℕ) (answer : Result Seen StoreRefused) (x : Stepping) → length found < 10
    → after_read q w found answer ≡ Some x → x.did.status ≡ None → Falls (stage.IdealRead w found) x.stage
falls_read q w found (Ok ideal) x few e f = by_test (changes q w (entries_by ideal.node)) e
  where
    by_test :
        (b : Bool)
        → cond b (goes (stage.IdealSet w found ideal) name.IdealRead outcome.Fine) (ends name.IdealRead outcome.Same (success w)) ≡ Some x
        → Falls (stage.IdealRead w found) x.stage
    by_test true h =
        falls_to (stage.IdealRead w found) (stage.IdealSet w found ideal) name.IdealRead outcome.Fine x h
        (record { trying = few; fewer = omega (arith, few); end = refl })
    by_test false h = absurd (not_ended name.IdealRead outcome.Same (success w) x h f)
falls_read q w found (Err NoNode) x few e f = absurd (not_ended name.IdealRead outcome.Failed _ x e f)
falls_read q w found (Err (Exists version)) x few e f = absurd (not_ended name.IdealRead outcome.Failed _ x e f)
falls_read q w found (Err (VersionChanged expected version)) x few e f =
    absurd (not_ended name.IdealRead outcome.Failed _ x e f)
falls_read q w found (Err Failed) x few e f = absurd (not_ended name.IdealRead outcome.Failed _ x e f)
falls_read q w found (Err Memory) x few e f = absurd (cc)

falls_set : (w : Work) (found : List ℕ) (ideal : Seen) (answer : Result ℕ StoreRefused) (x : Stepping)
    → after_set w found answer ≡ Some x → x.did.status ≡ None → Falls (stage.IdealSet w found ideal) x.stage
falls_set w found ideal (Ok version) x e f = absurd (not_ended name.IdealSet outcome.Fine (success w) x e f)
falls_set w found ideal (Err NoNode) x e f = absurd (not_ended name.IdealSet outcome.Failed _ x e f)
falls_set w found ideal (Err (Exists version)) x e f = absurd (not_ended name.IdealSet outcome.Failed _ x e f)
falls_set w found ideal (Err (VersionChanged expected version)) x e f = by_test (nat_lt (length found) 9) refl e
  where
    by_test :
        (b : Bool) → nat_lt (length found) 9 ≡ b
        → cond b
        (goes (stage.IdealRead w (found ++ version ∷ [])) name.IdealSet (outcome.Changed expected version))
        (ends name.IdealSet (outcome.Changed expected version) (status.Failed (cause.IdealChanged (found ++ version ∷ []))))
        ≡ Some x
        → Falls (stage.IdealSet w found ideal) x.stage
    by_test true few h =
        let lt = ltb-true (length found) 9 few in
        let more = length-append found (version ∷ []) in
        falls_to (stage.IdealSet w found ideal) (stage.IdealRead w (found ++ version ∷ [])) name.IdealSet (outcome.Changed expected version) x h
        (record { trying = omega (arith, lt, more); fewer = omega (arith, lt, more); end = refl })
    by_test false few h = absurd (not_ended name.IdealSet (outcome.Changed expected version) _ x h f)
falls_set w found ideal (Err Failed) x e f = absurd (not_ended name.IdealSet outcome.Failed _ x e f)
falls_set w found ideal (Err Memory) x e f = absurd (cc)

-- ---- a set of the ideal state, whatever was found before

abbrev Leads : (JobStage → Option ReplyStatus → Type 0) → Stepping → Type 0
Leads P x = P x.stage x.did.status

-- the job reads again, or it ends: it has failed or succeeded
pub by_set : (w : Work) (found : List ℕ) (P : JobStage → Option ReplyStatus → Type 0) → ((more : List ℕ) → P (stage.IdealRead w more) None)
    → ((because : FailCause) → P stage.Ended (Some (status.Failed because))) → P stage.Ended (Some (success w))
    → (answer : Result ℕ StoreRefused) (x : Stepping) → after_set w found answer ≡ Some x → P x.stage x.did.status
by_set w found P again failed succeeded (Ok version) x e = subst (Leads P) (same_step _ x e) succeeded
by_set w found P again failed succeeded (Err NoNode) x e = subst (Leads P) (same_step _ x e) (failed cause.StoreFault)
by_set w found P again failed succeeded (Err (Exists version)) x e = subst (Leads P) (same_step _ x e) (failed cause.StoreFault)
by_set w found P again failed succeeded (Err (VersionChanged expected version)) x e = by_test (nat_lt (length found) 9) e
  where
    by_test :
        (b : Bool)
        → cond b
        (goes (stage.IdealRead w (found ++ version ∷ [])) name.IdealSet (outcome.Changed expected version))
        (ends name.IdealSet (outcome.Changed expected version) (status.Failed (cause.IdealChanged (found ++ version ∷ []))))
        ≡ Some x
        → P x.stage x.did.status
    by_test true g = subst (Leads P) (same_step _ x g) (again (found ++ version ∷ []))
    by_test false g = subst (Leads P) (same_step _ x g) (failed (cause.IdealChanged (found ++ version ∷ [])))
by_set w found P again failed succeeded (Err Failed) x e = subst (Leads P) (same_step _ x e) (failed cause.StoreFault)
by_set w found P again failed succeeded (Err Memory) x e = absurd (cc)

-- ---- a step, by its stage

pub by_step :
    (q : Asked) (now : Moment) (P : JobStage → Answer → Stepping → Type 0)
    → ((from : Seen) (end : Offset) (path : List ℕ) (answer : Result (List ℕ) DeepRefused) (x : Stepping)
    → after_get q from end path answer ≡ Some x → P (stage.Check from end path) (got answer) x)
    → ((from : Seen) (commit : Commit) (answer : Result ℕ StoreRefused) (x : Stepping)
    → after_done from commit now answer ≡ Some x → P (stage.Done from commit) (set answer) x)
    → ((done : Seen) (answer : Result (Unit {0}) StoreRefused) (x : Stepping) → after_next done answer ≡ Some x → P (stage.Next done) (created answer) x)
    → ((w : Work) (found : List ℕ) (answer : Result Seen StoreRefused) (x : Stepping)
    → after_read q w found answer ≡ Some x → P (stage.IdealRead w found) (read answer) x)
    → ((w : Work) (found : List ℕ) (ideal : Seen) (answer : Result ℕ StoreRefused) (x : Stepping)
    → after_set w found answer ≡ Some x → P (stage.IdealSet w found ideal) (set answer) x)
    → (from : JobStage) (answer : Answer) (x : Stepping) → step_at q now from answer ≡ Some x → P from answer x
by_step q now P check done next ideal sets (stage.Check from end path) (got answer) x e = check from end path answer x e
by_step q now P check done next ideal sets (stage.Done from commit) (set answer) x e = done from commit answer x e
by_step q now P check done next ideal sets (stage.Next d) (created answer) x e = next d answer x e
by_step q now P check done next ideal sets (stage.IdealRead w found) (read answer) x e = ideal w found answer x e
by_step q now P check done next ideal sets (stage.IdealSet w found i) (set answer) x e = sets w found i answer x e
by_step q now P check done next ideal sets (stage.Check from end path) nothing x e = absurd (cc)
by_step q now P check done next ideal sets (stage.Check from end path) (put answer) x e = absurd (cc)
by_step q now P check done next ideal sets (stage.Check from end path) (read answer) x e = absurd (cc)
by_step q now P check done next ideal sets (stage.Check from end path) (set answer) x e = absurd (cc)
by_step q now P check done next ideal sets (stage.Check from end path) (created answer) x e = absurd (cc)
by_step q now P check done next ideal sets (stage.Done from commit) nothing x e = absurd (cc)
by_step q now P check done next ideal sets (stage.Done from commit) (put answer) x e = absurd (cc)
by_step q now P check done next ideal sets (stage.Done from commit) (got answer) x e = absurd (cc)
by_step q now P check done next ideal sets (stage.Done from commit) (read answer) x e = absurd (cc)
by_step q now P check done next ideal sets (stage.Done from commit) (created answer) x e = absurd (cc)
by_step q now P check done next ideal sets (stage.Next d) nothing x e = absurd (cc)
by_step q now P check done next ideal sets (stage.Next d) (put answer) x e = absurd (cc)
by_step q now P check done next ideal sets (stage.Next d) (got answer) x e = absurd (cc)
by_step q now P check done next ideal sets (stage.Next d) (read answer) x e = absurd (cc)
by_step q now P check done next ideal sets (stage.Next d) (set answer) x e = absurd (cc)
by_step q now P check done next ideal sets (stage.IdealRead w found) nothing x e = absurd (cc)
by_step q now P check done next ideal sets (stage.IdealRead w found) (put answer) x e = absurd (cc)
by_step q now P check done next ideal sets (stage.IdealRead w found) (got answer) x e = absurd (cc)
by_step q now P check done next ideal sets (stage.IdealRead w found) (set answer) x e = absurd (cc)
by_step q now P check done next ideal sets (stage.IdealRead w found) (created answer) x e = absurd (cc)
by_step q now P check done next ideal sets (stage.IdealSet w found i) nothing x e = absurd (cc)
by_step q now P check done next ideal sets (stage.IdealSet w found i) (put answer) x e = absurd (cc)
by_step q now P check done next ideal sets (stage.IdealSet w found i) (got answer) x e = absurd (cc)
by_step q now P check done next ideal sets (stage.IdealSet w found i) (read answer) x e = absurd (cc)
by_step q now P check done next ideal sets (stage.IdealSet w found i) (created answer) x e = absurd (cc)
by_step q now P check done next ideal sets stage.Ended nothing x e = absurd (cc)
by_step q now P check done next ideal sets stage.Ended (put answer) x e = absurd (cc)
by_step q now P check done next ideal sets stage.Ended (got answer) x e = absurd (cc)
by_step q now P check done next ideal sets stage.Ended (read answer) x e = absurd (cc)
by_step q now P check done next ideal sets stage.Ended (set answer) x e = absurd (cc)
by_step q now P check done next ideal sets stage.Ended (created answer) x e = absurd (cc)

pub falls : (q : Asked) (now : Moment) (from : JobStage) (answer : Answer) (x : Stepping) → IsTrying from
    → step_at q now from answer ≡ Some x → x.did.status ≡ None → Falls from x.stage
falls q now from answer x t e =
    by_step q now (λ s a y. IsTrying s → y.did.status ≡ None → Falls s y.stage)
    (λ from end path answer x e t f. falls_get q from end path answer x e f)
    (λ from commit answer x e t f. falls_done from commit now answer x e f)
    (λ done answer x e t f. falls_next done answer x e f)
    (λ w found answer x e t f. falls_read q w found answer x t e f)
    (λ w found ideal answer x e t f. falls_set w found ideal answer x e f)
    from answer x e t

pub some_left : (s : JobStage) → IsTrying s → 0 < steps_left s
some_left (stage.Check from end path) t = omega arith
some_left (stage.Done from commit) t = omega arith
some_left (stage.Next done) t = omega arith
some_left (stage.IdealRead w found) t = omega (arith, t)
some_left (stage.IdealSet w found ideal) t = omega (arith, t)
some_left stage.Ended t = absurd t

-- as many steps as are made are fewer than are left
lives : (q : Asked) (from : JobStage) (moves : List Move) (to : JobStage) → IsTrying from → GoesOn q from moves to
    → length moves < steps_left from
lives q from [] to t e = some_left from t
lives q from (m ∷ ms) to t (x, is, on, rest) =
    let k = falls q m.now from m.answer x t is on in
    omega (arith, lives q x.stage ms to k.trying rest, k.fewer)

pub commit_ends : (q : Asked) (from : Seen) (end : Offset) (path : List ℕ) (moves : List Move) (to : JobStage)
    → GoesOn q (stage.Check from end path) moves to → length moves < 23
commit_ends q from end path moves to k = lives q (stage.Check from end path) moves to tt k

pub offline_ends : (q : Asked) (moves : List Move) (to : JobStage)
    → GoesOn q (stage.IdealRead work.Offline []) moves to → length moves < 20
offline_ends q moves to k = lives q (stage.IdealRead work.Offline []) moves to (omega arith) k
