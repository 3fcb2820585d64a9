-- What a step of a job rests on and writes, over what the callers of its stores have seen.
use Rattle.std.proofs.Common.{◌≡◌, ◌⊎◌, inl, inr, ℕ, List, [], ◌∷◌, ◌++◌, append-nil, Option, Some, None, Result, Ok, Err, sym, ◌∙◌, ap, subst}
use Rattle.std.specs.Prelude.{All}
use Rattle.std.proofs.lemmas.List.{append_cancel_left}
use Rattle.std.proofs.lemmas.List.Elements.{All-nil, All-cons}
use Rattle.rt_base.specs.declared.fault.Fault.{Fault}
use Rattle.rt_base.specs.declared.numbers.Offset.{Offset}
use Rattle.rt_base.proofs.Planned.{left_cases}
use Rattle.rt_base.specs.declared.numbers.Moment.{Moment}
use Rattle.rt_lists.specs.Members.{IsFront}
use Rattle.rt_lists.proofs.Members.{front_same}
use Rattle.rt_model.specs.declared.asked.Asked.{Asked}
use Rattle.rt_model.specs.declared.commit.Commit.{Commit}
use Rattle.rt_model.specs.declared.node.Key.{Key}
use Rattle.rt_model.specs.declared.node.Key.TheVariants as key
use Rattle.rt_model.specs.declared.node.Seen.{Seen}
use Rattle.rt_model.specs.declared.job_step.StepOutcome.{StepOutcome}
use Rattle.rt_model.specs.declared.reply.ReplyStatus.{ReplyStatus}
use Rattle.rt_model.specs.declared.reply.ReplyStatus.TheVariants as status
use Rattle.rt_model.specs.Lawful.{Write, set, create_after, written_by}
use Rattle.rt_deep.specs.declared.deep_put.DeepPut.{DeepPut}
use Rattle.rt_deep.specs.declared.refused.DeepRefused.{DeepRefused}
use Rattle.rt_deep.specs.Calls as of_deep
use Rattle.rt_deep.proofs.Seeing.{get_seen}
use Rattle.rt_store.specs.declared.refused.StoreRefused.{StoreRefused}
use Rattle.rt_store.specs.declared.refused.StoreRefused.TheVariants.{NoNode, Exists, VersionChanged, Failed, Memory}
use Rattle.rt_store.specs.Answers.{answer_of, after_call, reading, Leaves}
use Rattle.rt_store.specs.Calls.{Calls, Gains, Goes, Reads}
use Rattle.rt_store.specs.Meaning.{Meaning, Own}
use Rattle.rt_store.proofs.Owning.{gains_nothing}
use Rattle.rt_store.proofs.Seeing.{read_grows, write_grows, wrote_by}
use Rattle.rt_past.specs.Files.{Stands}
use Rattle.rt_past.specs.View.{IsNamed}
use Rattle.rt_past.proofs.Growth.{named_grows}
use Rattle.rt_znodes.specs.Znodes.{meta_in, seen_meta_of}
use Rattle.rt_commit.specs.declared.job.JobStage.TheVariants as stage
use Rattle.rt_commit.specs.declared.job.JobStage.{JobStage}
use Rattle.rt_commit.specs.declared.stepped.Stepped.{Stepped}
use Rattle.rt_commit.specs.declared.work.Work.TheVariants as work
use Rattle.rt_commit.specs.declared.work.Work.{Work}
use Rattle.rt_commit.specs.Assignment.{Assigned}
use Rattle.rt_commit.specs.Calls.{Answer, Makes, DeepIdles, DeepMeaning, StoreIdles, created, got, read}
use Rattle.rt_commit.specs.Calls as calls
use Rattle.rt_commit.specs.IsJob.{IsAt, IsSetDone, IsWork}
use Rattle.rt_commit.specs.Job.{Stepping, after_set, call_at, done_node, ideal_node, next_key, next_node, step_at, success}
use Rattle.rt_commit.specs.Laws.{EndsOrGoesOn, IsSuccess}
use Rattle.rt_commit.specs.Own.{HasReadFile, IsOwnAnswer, IsOwnNode, IsOwnReply, OwnsMore}
use Rattle.rt_commit.specs.Steps.{StageSteps}
use Rattle.rt_commit.proofs.Ending.{by_set}
use Rattle.rt_commit.proofs.KeepsJobs.{done_on}
use Rattle.rt_commit.proofs.LastsJobs.{was_done}
use Rattle.rt_commit.proofs.Replying.{succeeds, tells_done, tells_get, tells_next, tells_read}

-- ---- what becomes the caller's own

module _ (P : Seen → Type 0) where
  owns_none : (o n : Option Own) → n ≡ o → OwnsMore P o n
  owns_none None n e = e
  owns_none (Some o) n e =
      let with_writes : List Seen → Option Own = λ ws. Some (record { numbers = o.numbers; writes = ws }) in
      ([], e ∙ ap with_writes (sym (append-nil o.writes)), All-nil P)

  owns_one : (o n : Option Own) (base seen : List Seen) (w : Seen) → Gains o n base seen → seen ≡ base ++ w ∷ [] → P w → OwnsMore P o n
  owns_one None n base seen w g e p = g
  owns_one (Some o) n base seen w g e p =
      let one : g.0 ≡ w ∷ [] = append_cancel_left base g.0 (w ∷ []) (sym g.1 ∙ e) in
      (g.0, g.2, subst (All P) (sym one) (All-cons P w [] p (All-nil P)))

  owns_left : (o n : Option Own) (base seen : List Seen) (call : Write) → Gains o n base seen → Leaves call base seen
      → P (written_by base call) → OwnsMore P o n
  owns_left o n base seen call g (inl e) p = owns_none o n (gains_nothing o n base seen g e)
  owns_left o n base seen call g (inr e) p = owns_one o n base seen (written_by base call) g e.1 p

  goes_owns : {X : Type 0} (old new : Meaning) (call : Write) (fault : Fault) (base : List Seen) (answer result : Result X StoreRefused)
      → Goes old new fault base (after_call call base) answer result → P (written_by base call) → OwnsMore P old.own new.own
  goes_owns old new call fault base answer result g p =
      owns_left old.own new.own base new.seen call g.own
      (wrote_by call base new.seen (left_cases fault base (after_call call base) new.seen g.seen)) p

  owns_call : {X : Type 0} (tell : Seen → X) (old new : Meaning) (call : Write) (result : Result X StoreRefused)
      (c : Calls old new (answer_of tell call) (after_call call) result) → P (written_by c.base call) → OwnsMore P old.own new.own
  owns_call tell old new call (Err Memory) c p = owns_none old.own new.own c.goes.own
  owns_call tell old new call (Err NoNode) c p = goes_owns old new call c.fault c.base (answer_of tell call c.base) (Err NoNode) c.goes p
  owns_call tell old new call (Err (Exists found)) c p =
      goes_owns old new call c.fault c.base (answer_of tell call c.base) (Err (Exists found)) c.goes p
  owns_call tell old new call (Err (VersionChanged expected found)) c p =
      goes_owns old new call c.fault c.base (answer_of tell call c.base) (Err (VersionChanged expected found)) c.goes p
  owns_call tell old new call (Err Failed) c p = goes_owns old new call c.fault c.base (answer_of tell call c.base) (Err Failed) c.goes p
  owns_call tell old new call (Ok x) c p = goes_owns old new call c.fault c.base (answer_of tell call c.base) (Ok x) c.goes p

  goes_reading : {X : Type 0} (old new : Meaning) (fault : Fault) (base : List Seen) (answer result : Result X StoreRefused)
      → Goes old new fault base base answer result → OwnsMore P old.own new.own
  goes_reading old new fault base answer result g =
      owns_none old.own new.own (gains_nothing old.own new.own base new.seen g.own (either (left_cases fault base base new.seen g.seen)))
    where
      either : (new.seen ≡ base) ⊎ (new.seen ≡ base) → new.seen ≡ base
      either (inl e) = e
      either (inr e) = e

  owns_read : (old new : Meaning) (k : Key) (result : Result Seen StoreRefused) → Reads old new k result → OwnsMore P old.own new.own
  owns_read old new k (Err Memory) c = owns_none old.own new.own c.goes.own
  owns_read old new k (Err NoNode) c = goes_reading old new c.fault c.base (reading k c.base) (Err NoNode) c.goes
  owns_read old new k (Err (Exists found)) c = goes_reading old new c.fault c.base (reading k c.base) (Err (Exists found)) c.goes
  owns_read old new k (Err (VersionChanged expected found)) c =
      goes_reading old new c.fault c.base (reading k c.base) (Err (VersionChanged expected found)) c.goes
  owns_read old new k (Err Failed) c = goes_reading old new c.fault c.base (reading k c.base) (Err Failed) c.goes
  owns_read old new k (Ok w) c = goes_reading old new c.fault c.base (reading k c.base) (Ok w) c.goes

  pub owns_same : (s t : Meaning) → t ≡ s → OwnsMore P s.own t.own
  owns_same s t e = owns_none s.own t.own (ap (λ (m : Meaning). m.own) e)

  pub owns_idle : (s t : Meaning) → StoreIdles s t → OwnsMore P s.own t.own
  owns_idle s t (inl e) = owns_same s t e
  owns_idle s t (inr (base, sees, idles)) = owns_none s.own t.own idles.own

-- ---- a step

module _ (s t : Meaning) (d e : DeepMeaning) (a : Assigned) (q : Asked) (now : Moment) where
  abbrev Written : Seen → Type 0
  Written w = IsOwnNode e.seen w.key w.node

  same_files : e ≡ d → e.seen ≡ d.seen
  same_files same = ap (λ (m : DeepMeaning). m.seen) same

  done_owned : (from : Seen) (commit : Commit) → from.key ≡ key.Meta q.partition q.sequence
      → IsNamed e.seen q.partition q.sequence (meta_in from.node).start commit → IsOwnNode e.seen from.key (done_node from commit now)
  done_owned from commit of k = let P : Key → Type 0 = λ x. IsOwnNode e.seen x (done_node from commit now) in subst P (sym of) k

  owns_stage : (from : JobStage) (x : Stepping) → IsAt s.seen q from → HasReadFile d.seen q from
      → Makes s t d e (call_at a q now from) (λ answer. step_at q now from answer ≡ Some x) → OwnsMore Written s.own t.own
  owns_stage (stage.Check from end path) x is k (answer, c, same, f) = owns_same Written s t same
  owns_stage (stage.Done from commit) x is k (answer, c, same, f) =
      let N : List DeepPut → Type 0 = λ files. IsNamed files q.partition q.sequence (meta_in from.node).start commit in
      owns_call Written (λ w. w.version) s t (set from (done_node from commit now)) answer c
      (done_owned from commit is.read.of (subst N (sym (same_files same)) k))
  owns_stage (stage.Next done) x is k (answer, c, same, f) =
      owns_call Written (λ w. tt) s t (create_after (next_key q) (next_node a q now done) done) answer c tt
  owns_stage (stage.IdealRead w found) x is k (answer, c, same, f) = owns_read Written s t key.Ideal answer c
  owns_stage (stage.IdealSet w found ideal) x is k (answer, c, same, f) =
      owns_call Written (λ v. v.version) s t (set ideal (ideal_node a q w ideal)) answer c is.is_ideal
  owns_stage stage.Ended x is k m = absurd is

  pub owns_step : (from to : JobStage) (result : Result Stepped (Unit {0})) → IsAt s.seen q from → HasReadFile d.seen q from
      → StageSteps s t d e a q now from to result → OwnsMore Written s.own t.own
  owns_step from to (Ok did) is k h = owns_stage from (record { stage = to; did = did }) is k h
  owns_step from to (Err refused) is k h = owns_idle Written s t h.1.0

  -- ---- the file that was read

  files_on : DeepIdles d e → IsFront d.seen e.seen
  files_on (inl same) = subst (IsFront d.seen) (sym (same_files same)) (front_same d.seen)
  files_on (inr (base, sees, idles)) = subst (IsFront d.seen) (sym idles.seen) sees.grows

  read_on : (from : JobStage) → IsFront d.seen e.seen → HasReadFile d.seen q from → HasReadFile e.seen q from
  read_on (stage.Check from end path) g k = tt
  read_on (stage.Done from commit) g k = named_grows d.seen e.seen q.partition q.sequence (meta_in from.node).start commit g k
  read_on (stage.Next done) g k = tt
  read_on (stage.IdealRead w found) g k = tt
  read_on (stage.IdealSet w found ideal) g k = tt
  read_on stage.Ended g k = tt

  reaches : (to other : JobStage) → to ≡ other → HasReadFile e.seen q other → HasReadFile e.seen q to
  reaches to other is k = subst (HasReadFile e.seen q) (sym is) k

  abbrev gives_bytes : List ℕ → Result (List ℕ) DeepRefused
  gives_bytes bytes = Ok bytes

  same_got : (x : Result (List ℕ) DeepRefused) (bytes : List ℕ) → got x ≡ got (gives_bytes bytes) → x ≡ gives_bytes bytes
  same_got x bytes is = cc

  check_reads : (from : Seen) (end : Offset) (path : List ℕ) (answer : Result (List ℕ) DeepRefused) (o : StepOutcome) (how : Option ReplyStatus)
      (to : JobStage) → of_deep.Gets d e path answer → EndsOrGoesOn q now (stage.Check from end path) (got answer) o how to → HasReadFile e.seen q to
  check_reads from end path answer o None to c (bytes, commit, answered, fine, end_is, path_is, header, is) =
      let G : Result (List ℕ) DeepRefused → Type 0 = of_deep.Gets d e path in
      let S : List ℕ → Type 0 = λ p. Stands e.seen p bytes in
      reaches to (stage.Done from commit) is
      (record {
        bytes = bytes;
        stands = subst S (sym path_is) (get_seen d e path bytes (subst G (same_got answer bytes answered) c));
        header = header;
      })
  check_reads from end path answer o (Some r) to c k = reaches to stage.Ended k.1 tt

  done_reads : (from : Seen) (commit : Commit) (answer : Answer) (o : StepOutcome) (how : Option ReplyStatus) (to : JobStage)
      → EndsOrGoesOn q now (stage.Done from commit) answer o how to → HasReadFile e.seen q to
  done_reads from commit answer o None to (version, answered, fine, is) = reaches to _ is tt
  done_reads from commit answer o (Some r) to k = reaches to stage.Ended k.1 tt

  next_reads : (done : Seen) (answer : Answer) (o : StepOutcome) (how : Option ReplyStatus) (to : JobStage)
      → EndsOrGoesOn q now (stage.Next done) answer o how to → HasReadFile e.seen q to
  next_reads done answer o None to k = reaches to _ k.1 tt
  next_reads done answer o (Some r) to k = reaches to stage.Ended k.1 tt

  ideal_reads : (w : Work) (found : List ℕ) (answer : Answer) (o : StepOutcome) (how : Option ReplyStatus) (to : JobStage)
      → EndsOrGoesOn q now (stage.IdealRead w found) answer o how to → HasReadFile e.seen q to
  ideal_reads w found answer o None to (ideal, answered, changed, fine, is) = reaches to _ is tt
  ideal_reads w found answer o (Some r) to k = reaches to stage.Ended k.1 tt

  set_reads : (w : Work) (found : List ℕ) (answer : Result ℕ StoreRefused) (x : Stepping) → after_set w found answer ≡ Some x
      → HasReadFile e.seen q x.stage
  set_reads w found answer x f = by_set w found (λ to how. HasReadFile e.seen q to) (λ more. tt) (λ because. tt) tt answer x f

  reads_stage : (from : JobStage) (x : Stepping) → IsAt s.seen q from
      → Makes s t d e (call_at a q now from) (λ answer. step_at q now from answer ≡ Some x) → HasReadFile e.seen q x.stage
  reads_stage (stage.Check from end path) x is (answer, c, same, f) =
      check_reads from end path answer x.did.outcome x.did.status x.stage c (tells_get q now from end path x answer f).1
  reads_stage (stage.Done from commit) x is (answer, c, same, f) =
      done_reads from commit (calls.set answer) x.did.outcome x.did.status x.stage (tells_done q now from commit x answer f).1
  reads_stage (stage.Next done) x is (answer, c, same, f) =
      next_reads done (created answer) x.did.outcome x.did.status x.stage (tells_next q now done x answer f).1
  reads_stage (stage.IdealRead w found) x is (answer, c, same, f) =
      ideal_reads w found (read answer) x.did.outcome x.did.status x.stage (tells_read q now w found x answer f).1
  reads_stage (stage.IdealSet w found ideal) x is (answer, c, same, f) = set_reads w found answer x f
  reads_stage stage.Ended x is m = absurd is

  pub reads_step : (from to : JobStage) (result : Result Stepped (Unit {0})) → IsAt s.seen q from → HasReadFile d.seen q from
      → StageSteps s t d e a q now from to result → HasReadFile e.seen q to
  reads_step from to (Ok did) is k h = reads_stage from (record { stage = to; did = did }) is h
  reads_step from to (Err refused) is k h = subst (HasReadFile e.seen q) (sym h.0) (read_on from (files_on h.1.1) k)

  -- ---- the reply

  abbrev Replies : ReplyStatus → Type 0
  Replies r = IsOwnReply t.seen q.partition q.sequence r

  abbrev AnswersOwn : Option ReplyStatus → Type 0
  AnswersOwn o = IsOwnAnswer t.seen q.partition q.sequence o

  reply_as : (r other : ReplyStatus) → r ≡ other → Replies other → Replies r
  reply_as r other is k = subst Replies (sym is) k

  work_told : (w : Work) (r : ReplyStatus) → IsFront s.seen t.seen → IsWork s.seen q w → IsSuccess w r → Replies r
  work_told (work.Commit done) r g k is =
      reply_as r (status.CommitSuccess (seen_meta_of done)) is
      (was_done t.seen q.partition q.sequence done (done_on s.seen t.seen q.partition q.sequence done g k.done))
  work_told work.Offline r g k is = reply_as r status.Processed is tt

  check_told : (from : Seen) (end : Offset) (path : List ℕ) (answer : Answer) (o : StepOutcome) (how : Option ReplyStatus) (to : JobStage)
      → EndsOrGoesOn q now (stage.Check from end path) answer o how to → AnswersOwn how
  check_told from end path answer o None to k = tt
  check_told from end path answer o (Some r) to (inl fault, is) = reply_as r _ fault.1 tt
  check_told from end path answer o (Some r) to (inr file, is) = reply_as r _ file.3 tt

  done_told : (from : Seen) (commit : Commit) (answer : Answer) (o : StepOutcome) (how : Option ReplyStatus) (to : JobStage)
      → EndsOrGoesOn q now (stage.Done from commit) answer o how to → AnswersOwn how
  done_told from commit answer o None to k = tt
  done_told from commit answer o (Some r) to (inl fault, is) = reply_as r _ fault.1 tt
  done_told from commit answer o (Some r) to (inr (inl none), is) = reply_as r _ none.2 tt
  done_told from commit answer o (Some r) to (inr (inr other), is) = reply_as r _ other.4 tt

  next_told : (done : Seen) (answer : Answer) (o : StepOutcome) (how : Option ReplyStatus) (to : JobStage) → IsFront s.seen t.seen
      → IsSetDone s.seen q.partition q.sequence done → EndsOrGoesOn q now (stage.Next done) answer o how to → AnswersOwn how
  next_told done answer o None to g is k = tt
  next_told done answer o (Some r) to g is (inl fault, e) = reply_as r _ fault.1 tt
  next_told done answer o (Some r) to g is (inr (inl other), e) = reply_as r _ other.4 tt
  next_told done answer o (Some r) to g is (inr (inr gone), e) =
      reply_as r (status.CommitSuccess (seen_meta_of done)) gone.2
      (was_done t.seen q.partition q.sequence done (done_on s.seen t.seen q.partition q.sequence done g is))

  ideal_told : (w : Work) (found : List ℕ) (answer : Answer) (o : StepOutcome) (how : Option ReplyStatus) (to : JobStage) → IsFront s.seen t.seen
      → IsWork s.seen q w → EndsOrGoesOn q now (stage.IdealRead w found) answer o how to → AnswersOwn how
  ideal_told w found answer o None to g is k = tt
  ideal_told w found answer o (Some r) to g is (inl fault, e) = reply_as r _ fault.1 tt
  ideal_told w found answer o (Some r) to g is (inr same, e) = work_told w r g is same.4

  set_told : (w : Work) (found : List ℕ) (answer : Result ℕ StoreRefused) (x : Stepping) → IsFront s.seen t.seen → IsWork s.seen q w
      → after_set w found answer ≡ Some x → AnswersOwn x.did.status
  set_told w found answer x g is f =
      by_set w found (λ to how. AnswersOwn how) (λ more. tt) (λ because. tt) (work_told w (success w) g is (succeeds w)) answer x f

  pub told_stage : (from : JobStage) (x : Stepping) → IsAt s.seen q from
      → Makes s t d e (call_at a q now from) (λ answer. step_at q now from answer ≡ Some x) → AnswersOwn x.did.status
  told_stage (stage.Check from end path) x is (answer, c, same, f) =
      check_told from end path (got answer) x.did.outcome x.did.status x.stage (tells_get q now from end path x answer f).1
  told_stage (stage.Done from commit) x is (answer, c, same, f) =
      done_told from commit (calls.set answer) x.did.outcome x.did.status x.stage (tells_done q now from commit x answer f).1
  told_stage (stage.Next done) x is (answer, c, same, f) =
      next_told done (created answer) x.did.outcome x.did.status x.stage
      (write_grows (λ w. tt) s t (create_after (next_key q) (next_node a q now done) done) answer c) is (tells_next q now done x answer f).1
  told_stage (stage.IdealRead w found) x is (answer, c, same, f) =
      ideal_told w found (read answer) x.did.outcome x.did.status x.stage (read_grows s t key.Ideal answer c) is (tells_read q now w found x answer f).1
  told_stage (stage.IdealSet w found ideal) x is (answer, c, same, f) =
      set_told w found answer x (write_grows (λ v. v.version) s t (set ideal (ideal_node a q w ideal)) answer c) is.work f
  told_stage stage.Ended x is m = absurd is

  pub told_step : (from to : JobStage) (did : Stepped) → IsAt s.seen q from → StageSteps {E = Unit {0}} s t d e a q now from to (Ok did)
      → IsOwnAnswer t.seen q.partition q.sequence did.status
  told_step from to did is h = told_stage from (record { stage = to; did = did }) is h
