-- What a job remembers stays so, through each of its steps and as more is seen.
use Rattle.std.proofs.Common.{◌≡◌, ℕ, ◌+◌, ◌<◌, Bool, true, false, cond, List, [], ◌∷◌, ◌++◌, Option, Some, None, Result, Ok, Err, nat_lt, length, refl, sym, ◌∙◌, ap, subst}
use Rattle.rt_base.specs.declared.header.Header.{Header}
use Rattle.rt_base.specs.declared.numbers.Moment.{Moment}
use Rattle.rt_base.specs.declared.numbers.Offset.{Offset}
use Rattle.rt_base.specs.declared.numbers.Partition.{Partition}
use Rattle.rt_base.specs.declared.numbers.Sequence.{Sequence}
use Rattle.rt_lists.specs.Members.{Has, IsFront}
use Rattle.rt_lists.proofs.Members.{Has-front, Has-push, Has-same}
use Rattle.rt_model.specs.declared.asked.Asked.{Asked}
use Rattle.rt_model.specs.declared.commit.Commit.{Commit}
use Rattle.rt_model.specs.declared.ideal_state.IdealState.{IdealState}
use Rattle.rt_model.specs.declared.job_step.StepName.{StepName}
use Rattle.rt_model.specs.declared.job_step.StepName.TheVariants as name
use Rattle.rt_model.specs.declared.job_step.StepOutcome.{StepOutcome}
use Rattle.rt_model.specs.declared.job_step.StepOutcome.TheVariants as outcome
use Rattle.rt_model.specs.declared.node.Key.{Key}
use Rattle.rt_model.specs.declared.node.Key.TheVariants as key
use Rattle.rt_model.specs.declared.node.Node.{Node}
use Rattle.rt_model.specs.declared.node.Node.TheVariants as node
use Rattle.rt_model.specs.declared.node.Seen.{Seen}
use Rattle.rt_model.specs.declared.reply.FailCause.TheVariants as cause
use Rattle.rt_model.specs.declared.reply.ReplyStatus.{ReplyStatus}
use Rattle.rt_model.specs.declared.reply.ReplyStatus.TheVariants as status
use Rattle.rt_model.specs.Entries.{entries_by}
use Rattle.rt_model.specs.Lawful.{set, create_after, written_by, IsLawfulHistory}
use Rattle.rt_model.specs.Metadata.{IsCreated}
use Rattle.rt_model.specs.Starting.{Starting}
use Rattle.rt_model.proofs.Lawful.{has_ideal_state}
use Rattle.rt_deep.specs.declared.refused.DeepRefused.{DeepRefused}
use Rattle.rt_deep.specs.declared.refused.DeepRefused.TheVariants as deep
use Rattle.rt_store.specs.declared.refused.StoreRefused.{StoreRefused}
use Rattle.rt_store.specs.declared.refused.StoreRefused.TheVariants.{NoNode, Exists, VersionChanged, Failed, Memory}
use Rattle.rt_store.specs.Calls.{Reads, SetsFrom, CreatesAfter}
use Rattle.rt_store.specs.Meaning.{Meaning}
use Rattle.rt_store.proofs.Seeing.{read_seen}
use Rattle.rt_store.proofs.Told.{answered_took}
use Rattle.rt_store.proofs.GoingOn.{GoesOn, read_is}
use Rattle.rt_store.proofs.Refusals.{next_present}
use Rattle.rt_past.specs.Files.{header_in}
use Rattle.rt_znodes.specs.Znodes.{meta_in}
use Rattle.rt_commit.specs.declared.job.Job.{Job}
use Rattle.rt_commit.specs.declared.job.JobStage.TheVariants as stage
use Rattle.rt_commit.specs.declared.job.JobStage.{JobStage}
use Rattle.rt_commit.specs.declared.work.Work.TheVariants as work
use Rattle.rt_commit.specs.declared.work.Work.{Work}
use Rattle.rt_commit.specs.Assignment.{Assigned}
use Rattle.rt_commit.specs.Calls.{Makes, DeepMeaning}
use Rattle.rt_commit.specs.IsJob.{IsRead, IsSetDone, IsNextThere, IsWork, IsCommitting, IsAt, IsJob}
use Rattle.rt_commit.specs.Job.{Stepping, goes, ends, is_wanted, commit_of, bad, checked, after_get, done_node, done_write, after_done, next_key, next_node, after_next, changes, success, after_read, after_set, call_at, step_at}

-- ---- as more is seen

pub read_on : (a b : List Seen) (p : Partition) (q : Sequence) (w : Seen) → IsFront a b → IsRead a p q w → IsRead b p q w
read_on a b p q w f k = record { has = Has-front a b w f k.has; of = k.of; consuming = k.consuming }

pub done_on : (a b : List Seen) (p : Partition) (q : Sequence) (w : Seen) → IsFront a b → IsSetDone a p q w → IsSetDone b p q w
done_on a b p q w f k = record { has = Has-front a b w f k.has; of = k.of; done = k.done }

next_on : (a b : List Seen) (p : Partition) (q : Sequence) (w : Seen) → IsFront a b → IsNextThere a p q w → IsNextThere b p q w
next_on a b p q w f k =
    record { done = done_on a b p q w f k.done; next = (k.next.0, Has-front a b k.next.0 f k.next.1, k.next.2, k.next.3) }

work_on : (a b : List Seen) (q : Asked) (w : Work) → IsFront a b → IsWork a q w → IsWork b q w
work_on a b q (work.Commit done) f k = next_on a b q.partition q.sequence done f k
work_on a b q work.Offline f k = tt

committing_on : (a b : List Seen) (q : Asked) (from : Seen) (end : ℕ) → IsFront a b → IsCommitting a q from end → IsCommitting b q from end
committing_on a b q from end f k = record { read = read_on a b q.partition q.sequence from f k.read; past = k.past }

pub at_on : (a b : List Seen) (q : Asked) (x : JobStage) → IsFront a b → IsAt a q x → IsAt b q x
at_on a b q (stage.Check from end path) f k = committing_on a b q from end.0 f k
at_on a b q (stage.Done from commit) f k = committing_on a b q from commit.end.0 f k
at_on a b q (stage.Next done) f k = done_on a b q.partition q.sequence done f k
at_on a b q (stage.IdealRead w found) f k = work_on a b q w f k
at_on a b q (stage.IdealSet w found ideal) f k =
    record {
      work = work_on a b q w f k.work;
      has = Has-front a b ideal f k.has;
      is_ideal = k.is_ideal;
      state = k.state;
      is_state = k.is_state;
    }
at_on a b q stage.Ended f k = absurd k

-- ---- a step that goes on, and one that doesn't

abbrev step_some : Stepping → Option Stepping
step_some x = Some x

pub same_step : (x y : Stepping) → step_some x ≡ step_some y → x ≡ y
same_step x y e = cc

status_none : (r : ReplyStatus) (o : Option ReplyStatus) → Some r ≡ o → o ≡ None → ⊥
status_none r o e f = absurd (cc)

-- an ended job doesn't go on
pub not_ended : (n : StepName) (o : StepOutcome) (r : ReplyStatus) (x : Stepping) → ends n o r ≡ Some x → x.did.status ≡ None → ⊥
not_ended n o r x e f = status_none r x.did.status (ap (λ (y : Stepping). y.did.status) (same_step _ x e)) f

-- the stage to which a job goes
pub went : (s : JobStage) (n : StepName) (o : StepOutcome) (x : Stepping) → goes s n o ≡ Some x → x.stage ≡ s
went s n o x e = ap (λ (y : Stepping). y.stage) (sym (same_step _ x e))

at_went : (seen : List Seen) (q : Asked) (s : JobStage) (n : StepName) (o : StepOutcome) (x : Stepping)
    → goes s n o ≡ Some x → IsAt seen q s → IsAt seen q x.stage
at_went seen q s n o x e k = subst (IsAt seen q) (sym (went s n o x e)) k

-- ---- check

keeps_check : (seen : List Seen) (q : Asked) (from : Seen) (end : Offset) (path : List ℕ) (o : Option Header) (x : Stepping)
    → IsCommitting seen q from end.0 → checked q from end path o ≡ Some x → x.did.status ≡ None → IsAt seen q x.stage
keeps_check seen q from end path None x k e f = absurd (not_ended name.Check outcome.Bad _ x e f)
keeps_check seen q from end path (Some h) x k e f = by_test (is_wanted q (meta_in from.node).start end h) e
  where
    by_test :
        (b : Bool)
        → cond b (goes (stage.Done from (commit_of end path h)) name.Check outcome.Fine) (bad q from end (Some h)) ≡ Some x
        → IsAt seen q x.stage
    by_test true g = at_went seen q (stage.Done from (commit_of end path h)) name.Check outcome.Fine x g k
    by_test false g = absurd (not_ended name.Check outcome.Bad _ x g f)

keeps_get : (seen : List Seen) (q : Asked) (from : Seen) (end : Offset) (path : List ℕ) (answer : Result (List ℕ) DeepRefused) (x : Stepping)
    → IsCommitting seen q from end.0 → after_get q from end path answer ≡ Some x → x.did.status ≡ None → IsAt seen q x.stage
keeps_get seen q from end path (Ok bytes) x k e f = keeps_check seen q from end path (header_in bytes) x k e f
keeps_get seen q from end path (Err deep.Absent) x k e f = absurd (not_ended name.Check outcome.Bad _ x e f)
keeps_get seen q from end path (Err (deep.OtherBytes kept offered)) x k e f = absurd (not_ended name.Check outcome.Failed _ x e f)
keeps_get seen q from end path (Err deep.Failed) x k e f = absurd (not_ended name.Check outcome.Failed _ x e f)
keeps_get seen q from end path (Err deep.Memory) x k e f = absurd (cc)

-- ---- done

abbrev seen_at : Key → Node → ℕ → Seen
seen_at k n version = record { key = k; version = version; node = n }

-- a set that was answered is seen, at the version that it answered
pub set_seen : (s t : Meaning) (from : Seen) (n : Node) (version : ℕ) → SetsFrom s t from n (Ok version)
    → Has t.seen (record { key = from.key; version = version; node = n })
set_seen s t from n version c =
    let took = answered_took (λ w. w.version) s t (set from n) version c in
    let written = written_by c.base (set from n) in
    let P : Seen → Type 0 = Has t.seen in
    subst P (ap (seen_at from.key n) (sym took.2))
    (Has-same (c.base ++ written ∷ []) t.seen written (sym took.1) (Has-push c.base written))

keeps_done : (s t : Meaning) (q : Asked) (from : Seen) (commit : Commit) (now : Moment) (answer : Result ℕ StoreRefused) (x : Stepping)
    → IsCommitting s.seen q from commit.end.0 → SetsFrom s t from (done_node from commit now) answer
    → after_done from commit now answer ≡ Some x → x.did.status ≡ None → IsAt t.seen q x.stage
keeps_done s t q from commit now (Ok version) x k c e f =
    at_went t.seen q (stage.Next (done_write from commit now version)) name.Done outcome.Fine x e
    (record { has = set_seen s t from (done_node from commit now) version c; of = k.read.of; done = tt })
keeps_done s t q from commit now (Err NoNode) x k c e f = absurd (not_ended name.Done outcome.NoNode _ x e f)
keeps_done s t q from commit now (Err (Exists found)) x k c e f = absurd (not_ended name.Done outcome.Failed _ x e f)
keeps_done s t q from commit now (Err (VersionChanged expected found)) x k c e f =
    absurd (not_ended name.Done (outcome.Changed expected found) _ x e f)
keeps_done s t q from commit now (Err Failed) x k c e f = absurd (not_ended name.Done outcome.Failed _ x e f)
keeps_done s t q from commit now (Err Memory) x k c e f = absurd (cc)

-- ---- next

-- a segment that was created is seen so
created_seen : (s t : Meaning) (a : Assigned) (q : Asked) (now : Moment) (done : Seen) (u : Unit {0})
    → CreatesAfter s t (next_key q) (next_node a q now done) done (Ok u) → IsCreated t.seen q.partition (q.sequence.0 + 1)
created_seen s t a q now done u c =
    let call = create_after (next_key q) (next_node a q now done) done in
    let took = answered_took (λ w. tt) s t call u c in
    let written = written_by c.base call in
    (written, Has-same (c.base ++ written ∷ []) t.seen written (sym took.1) (Has-push c.base written), refl, tt)

keeps_next : (st : Starting) (s t : Meaning) (a : Assigned) (q : Asked) (now : Moment) (done : Seen)
    (answer : Result (Unit {0}) StoreRefused) (x : Stepping) → q.partition.0 < st.partitions → IsLawfulHistory st s.seen
    → GoesOn st s t → IsSetDone s.seen q.partition q.sequence done
    → CreatesAfter s t (next_key q) (next_node a q now done) done answer
    → after_next done answer ≡ Some x → x.did.status ≡ None → IsAt t.seen q x.stage
keeps_next st s t a q now done (Ok u) x within l g k c e f =
    at_went t.seen q (stage.IdealRead (work.Commit done) []) name.Next outcome.Fine x e
    (record {
      done = done_on s.seen t.seen q.partition q.sequence done g.front k;
      next = created_seen s t a q now done u c;
    })
keeps_next st s t a q now done (Err NoNode) x within l g k c e f = absurd (not_ended name.Next outcome.Gone _ x e f)
keeps_next st s t a q now done (Err (Exists found)) x within l g k c e f =
    at_went t.seen q (stage.IdealRead (work.Commit done) []) name.Next outcome.Exists x e
    (record {
      done = done_on s.seen t.seen q.partition q.sequence done g.front k;
      next = next_present st s t q.partition (q.sequence.0 + 1) (next_node a q now done) done found within l c;
    })
keeps_next st s t a q now done (Err (VersionChanged expected found)) x within l g k c e f =
    absurd (not_ended name.Next (outcome.Changed expected found) _ x e f)
keeps_next st s t a q now done (Err Failed) x within l g k c e f = absurd (not_ended name.Next outcome.Failed _ x e f)
keeps_next st s t a q now done (Err Memory) x within l g k c e f = absurd (cc)

-- ---- idealRead

abbrev some_write : Seen → Option Seen
some_write w = Some w

same_write : (v w : Seen) → some_write v ≡ some_write w → v ≡ w
same_write v w e = cc

-- what was read of the ideal state is one
pub ideal_read : (st : Starting) (s t : Meaning) (ideal : Seen) → GoesOn st s t → Reads s t key.Ideal (Ok ideal)
    → (i : IdealState) × (ideal.node ≡ node.Ideal i)
ideal_read st s t ideal g c =
    let there = has_ideal_state st t.seen g.lawful in
    let same : there.0 ≡ ideal = same_write there.0 ideal (sym there.2 ∙ read_is s t key.Ideal ideal c) in
    (there.1, ap (λ (w : Seen). w.node) (sym same) ∙ there.3)

keeps_read : (st : Starting) (s t : Meaning) (q : Asked) (w : Work) (found : List ℕ) (answer : Result Seen StoreRefused) (x : Stepping)
    → GoesOn st s t → IsWork s.seen q w → Reads s t key.Ideal answer
    → after_read q w found answer ≡ Some x → x.did.status ≡ None → IsAt t.seen q x.stage
keeps_read st s t q w found (Ok ideal) x g k c e f = by_test (changes q w (entries_by ideal.node)) e
  where
    by_test :
        (b : Bool)
        → cond b (goes (stage.IdealSet w found ideal) name.IdealRead outcome.Fine) (ends name.IdealRead outcome.Same (success w)) ≡ Some x
        → IsAt t.seen q x.stage
    by_test true h =
        let has = read_seen s t key.Ideal ideal c in
        let is = ideal_read st s t ideal g c in
        at_went t.seen q (stage.IdealSet w found ideal) name.IdealRead outcome.Fine x h
        (record { work = work_on s.seen t.seen q w g.front k; has = has.0; is_ideal = has.1; state = is.0; is_state = is.1 })
    by_test false h = absurd (not_ended name.IdealRead outcome.Same (success w) x h f)
keeps_read st s t q w found (Err NoNode) x g k c e f = absurd (not_ended name.IdealRead outcome.Failed _ x e f)
keeps_read st s t q w found (Err (Exists version)) x g k c e f = absurd (not_ended name.IdealRead outcome.Failed _ x e f)
keeps_read st s t q w found (Err (VersionChanged expected version)) x g k c e f =
    absurd (not_ended name.IdealRead outcome.Failed _ x e f)
keeps_read st s t q w found (Err Failed) x g k c e f = absurd (not_ended name.IdealRead outcome.Failed _ x e f)
keeps_read st s t q w found (Err Memory) x g k c e f = absurd (cc)

-- ---- idealSet

keeps_set : (seen : List Seen) (q : Asked) (w : Work) (found : List ℕ) (answer : Result ℕ StoreRefused) (x : Stepping)
    → IsWork seen q w → after_set w found answer ≡ Some x → x.did.status ≡ None → IsAt seen q x.stage
keeps_set seen q w found (Ok version) x k e f = absurd (not_ended name.IdealSet outcome.Fine (success w) x e f)
keeps_set seen q w found (Err NoNode) x k e f = absurd (not_ended name.IdealSet outcome.Failed _ x e f)
keeps_set seen q w found (Err (Exists version)) x k e f = absurd (not_ended name.IdealSet outcome.Failed _ x e f)
keeps_set seen q w found (Err (VersionChanged expected version)) x k e f = by_test (nat_lt (length found) 9) e
  where
    by_test :
        (b : Bool)
        → cond b
        (goes (stage.IdealRead w (found ++ version ∷ [])) name.IdealSet (outcome.Changed expected version))
        (ends name.IdealSet (outcome.Changed expected version) (status.Failed (cause.IdealChanged (found ++ version ∷ []))))
        ≡ Some x
        → IsAt seen q x.stage
    by_test true h =
        at_went seen q (stage.IdealRead w (found ++ version ∷ [])) name.IdealSet (outcome.Changed expected version) x h k
    by_test false h = absurd (not_ended name.IdealSet (outcome.Changed expected version) _ x h f)
keeps_set seen q w found (Err Failed) x k e f = absurd (not_ended name.IdealSet outcome.Failed _ x e f)
keeps_set seen q w found (Err Memory) x k e f = absurd (cc)

-- ---- a step

pub keeps_stage : (st : Starting) (s t : Meaning) (d e : DeepMeaning) (a : Assigned) (q : Asked) (now : Moment) (x : Stepping) (from : JobStage)
    → q.partition.0 < st.partitions → IsLawfulHistory st s.seen → GoesOn st s t → IsAt s.seen q from
    → Makes s t d e (call_at a q now from) (λ answer. step_at q now from answer ≡ Some x)
    → x.did.status ≡ None → IsAt t.seen q x.stage
keeps_stage st s t d e a q now x (stage.Check from end path) within l g k (answer, c, same, is) f =
    keeps_get t.seen q from end path answer x (committing_on s.seen t.seen q from end.0 g.front k) is f
keeps_stage st s t d e a q now x (stage.Done from commit) within l g k (answer, c, same, is) f =
    keeps_done s t q from commit now answer x k c is f
keeps_stage st s t d e a q now x (stage.Next done) within l g k (answer, c, same, is) f =
    keeps_next st s t a q now done answer x within l g k c is f
keeps_stage st s t d e a q now x (stage.IdealRead w found) within l g k (answer, c, same, is) f =
    keeps_read st s t q w found answer x g k c is f
keeps_stage st s t d e a q now x (stage.IdealSet w found ideal) within l g k (answer, c, same, is) f =
    keeps_set t.seen q w found answer x (work_on s.seen t.seen q w g.front k.work) is f
keeps_stage st s t d e a q now x stage.Ended within l g k m f = absurd k

-- ---- as more is seen

pub job_on : (st : Starting) (a b : List Seen) (j : Job) → IsFront a b → IsJob st a j → IsJob st b j
job_on st a b j f k = record { within = k.within; small = k.small; at = at_on a b j.asked j.stage f k.at }
