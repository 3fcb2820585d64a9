-- With what a job ends.
use Rattle.std.proofs.Common.{◌≡◌, ℕ, ◌<◌, inl, inr, Bool, true, false, cond, List, [], ◌∷◌, ◌++◌, Option, Some, None, Result, Ok, Err, nat_lt, length, refl, ap, ◌∙◌, subst, arith}
use Rattle.std.proofs.lemmas.Bool.{ltb-true, ltb-false}
use Rattle.std.proofs.lemmas.List.{length-append}
use Rattle.rt_base.specs.declared.header.Header.{Header}
use Rattle.rt_base.specs.declared.numbers.Moment.{Moment}
use Rattle.rt_base.specs.declared.numbers.Offset.{Offset}
use Rattle.rt_model.specs.declared.asked.Asked.{Asked}
use Rattle.rt_model.specs.declared.commit.Commit.{Commit}
use Rattle.rt_model.specs.declared.job_step.StepName.{StepName}
use Rattle.rt_model.specs.declared.job_step.StepName.TheVariants as name
use Rattle.rt_model.specs.declared.job_step.StepOutcome.{StepOutcome}
use Rattle.rt_model.specs.declared.job_step.StepOutcome.TheVariants as outcome
use Rattle.rt_model.specs.declared.node.Seen.{Seen}
use Rattle.rt_model.specs.declared.reply.FailCause.TheVariants as cause
use Rattle.rt_model.specs.declared.reply.ReplyStatus.{ReplyStatus}
use Rattle.rt_model.specs.declared.reply.ReplyStatus.TheVariants as status
use Rattle.rt_model.specs.Entries.{entries_by}
use Rattle.rt_deep.specs.declared.refused.DeepRefused.{DeepRefused}
use Rattle.rt_deep.specs.declared.refused.DeepRefused.TheVariants as deep
use Rattle.rt_store.specs.declared.refused.StoreRefused.{StoreRefused}
use Rattle.rt_store.specs.declared.refused.StoreRefused.TheVariants.{NoNode, Exists, VersionChanged, Failed, Memory}
use Rattle.rt_past.specs.Files.{header_in}
use Rattle.rt_znodes.specs.Znodes.{meta_in, seen_meta_of}
use Rattle.rt_commit.specs.declared.job.JobStage.TheVariants as stage
use Rattle.rt_commit.specs.declared.job.JobStage.{JobStage}
use Rattle.rt_commit.specs.declared.work.Work.TheVariants as work
use Rattle.rt_commit.specs.declared.work.Work.{Work}
use Rattle.rt_commit.specs.Calls.{Answer, got, read, set, created}
use Rattle.rt_commit.specs.Job.{Stepping, goes, ends, fails, is_wanted, wanted, commit_of, bad, checked, after_get, done_write, after_done, after_next, changes, success, after_read, after_set, step_at}
use Rattle.rt_commit.specs.Laws.{Move, GoesOn, IsNamedBy, IsSuccess, IsTrying, Answers, MayGoOn, Tells}
use Rattle.rt_commit.proofs.Ending.{by_step, falls}
use Rattle.rt_commit.proofs.KeepsJobs.{same_step}
use Rattle.rt_commit.proofs.WantedHeader.{some_header, wanted_header}

-- ---- the reply

tells_went : (q : Asked) (now : Moment) (from : JobStage) (a : Answer) (s : JobStage) (n : StepName) (o : StepOutcome) (x : Stepping)
    → goes s n o ≡ Some x → IsNamedBy from n → MayGoOn q now from a o s → Tells q now from a x
tells_went q now from a s n o x e is k = subst (Tells q now from a) (same_step _ x e) (is, k)

tells_ended : (q : Asked) (now : Moment) (from : JobStage) (a : Answer) (n : StepName) (o : StepOutcome) (r : ReplyStatus) (x : Stepping)
    → ends n o r ≡ Some x → IsNamedBy from n → Answers q from a o r → Tells q now from a x
tells_ended q now from a n o r x e is k = subst (Tells q now from a) (same_step _ x e) (is, (k, refl))

-- a fault ends a job at each stage
tells_failed : (q : Asked) (now : Moment) (from : JobStage) (a : Answer) (n : StepName) (x : Stepping) → fails n ≡ Some x → IsNamedBy from n
    → Answers q from a outcome.Failed (status.Failed cause.StoreFault) → Tells q now from a x
tells_failed q now from a n x e is k = tells_ended q now from a n outcome.Failed (status.Failed cause.StoreFault) x e is k

-- ---- check

module _ (q : Asked) (now : Moment) (from : Seen) (end : Offset) (path : List ℕ) (x : Stepping) where
  abbrev at_check : JobStage
  at_check = stage.Check from end path

  tells_bad : (a : Answer) (o : Option Header) → bad q from end o ≡ Some x → Tells q now at_check a x
  tells_bad a o e =
      let wants = wanted q (meta_in from.node).start end o in
      tells_ended q now at_check a name.Check outcome.Bad (status.Failed (cause.BadUpload wants o)) x e refl (inr (wants, o, refl, refl))

  tells_header : (bytes : List ℕ) (o : Option Header) → header_in bytes ≡ o → checked q from end path o ≡ Some x
      → Tells q now at_check (got (Ok bytes)) x
  tells_header bytes None of e = tells_bad (got (Ok bytes)) None e
  tells_header bytes (Some h) of e = by_test (is_wanted q (meta_in from.node).start end h) refl e
    where
      by_test :
          (b : Bool) → is_wanted q (meta_in from.node).start end h ≡ b
          → cond b (goes (stage.Done from (commit_of end path h)) name.Check outcome.Fine) (bad q from end (Some h)) ≡ Some x
          → Tells q now at_check (got (Ok bytes)) x
      by_test true is g =
          let named = of ∙ ap some_header (wanted_header q (meta_in from.node).start end path h is) in
          tells_went q now at_check (got (Ok bytes)) (stage.Done from (commit_of end path h)) name.Check outcome.Fine x g refl
          (bytes, commit_of end path h, refl, refl, refl, refl, named, refl)
      by_test false is g = tells_bad (got (Ok bytes)) (Some h) g

  pub tells_get : (answer : Result (List ℕ) DeepRefused) → after_get q from end path answer ≡ Some x → Tells q now at_check (got answer) x
  tells_get (Ok bytes) e = tells_header bytes (header_in bytes) refl e
  tells_get (Err deep.Absent) e = tells_bad (got (Err deep.Absent)) None e
  tells_get (Err (deep.OtherBytes kept offered)) e = tells_failed q now at_check (got (Err (deep.OtherBytes kept offered))) name.Check x e refl (inl (refl, refl))
  tells_get (Err deep.Failed) e = tells_failed q now at_check (got (Err deep.Failed)) name.Check x e refl (inl (refl, refl))
  tells_get (Err deep.Memory) e = absurd (cc)

-- ---- done

module _ (q : Asked) (now : Moment) (from : Seen) (commit : Commit) (x : Stepping) where
  abbrev at_done : JobStage
  at_done = stage.Done from commit

  pub tells_done : (answer : Result ℕ StoreRefused) → after_done from commit now answer ≡ Some x → Tells q now at_done (set answer) x
  tells_done (Ok version) e =
      tells_went q now at_done (set (Ok version)) (stage.Next (done_write from commit now version)) name.Done outcome.Fine x e refl
      (version, refl, refl, refl)
  tells_done (Err NoNode) e =
      tells_ended q now at_done (set (Err NoNode)) name.Done outcome.NoNode (status.Failed cause.NoSegment) x e refl (inr (inl (refl, refl, refl)))
  tells_done (Err (Exists found)) e = tells_failed q now at_done (set (Err (Exists found))) name.Done x e refl (inl (refl, refl))
  tells_done (Err (VersionChanged expected found)) e =
      tells_ended q now at_done (set (Err (VersionChanged expected found))) name.Done (outcome.Changed expected found)
      (status.Failed (cause.VersionChanged expected found)) x e refl (inr (inr (expected, found, refl, refl, refl)))
  tells_done (Err Failed) e = tells_failed q now at_done (set (Err Failed)) name.Done x e refl (inl (refl, refl))
  tells_done (Err Memory) e = absurd (cc)

-- ---- next

module _ (q : Asked) (now : Moment) (done : Seen) (x : Stepping) where
  abbrev at_next : JobStage
  at_next = stage.Next done

  abbrev reads_next : JobStage
  reads_next = stage.IdealRead (work.Commit done) []

  pub tells_next : (answer : Result (Unit {0}) StoreRefused) → after_next done answer ≡ Some x → Tells q now at_next (created answer) x
  tells_next (Ok u) e = tells_went q now at_next (created (Ok u)) reads_next name.Next outcome.Fine x e refl (inl refl, refl)
  tells_next (Err NoNode) e =
      tells_ended q now at_next (created (Err NoNode)) name.Next outcome.Gone (status.CommitSuccess (seen_meta_of done)) x e refl
      (inr (inr (refl, refl, refl)))
  tells_next (Err (Exists found)) e =
      tells_went q now at_next (created (Err (Exists found))) reads_next name.Next outcome.Exists x e refl (inr refl, refl)
  tells_next (Err (VersionChanged expected found)) e =
      tells_ended q now at_next (created (Err (VersionChanged expected found))) name.Next (outcome.Changed expected found)
      (status.Failed (cause.VersionChanged expected found)) x e refl (inr (inl (expected, found, refl, refl, refl)))
  tells_next (Err Failed) e = tells_failed q now at_next (created (Err Failed)) name.Next x e refl (inl (refl, refl))
  tells_next (Err Memory) e = absurd (cc)

-- ---- the ideal state

pub succeeds : (w : Work) → IsSuccess w (success w)
succeeds (work.Commit done) = refl
succeeds work.Offline = refl

module _ (q : Asked) (now : Moment) (w : Work) (found : List ℕ) (x : Stepping) where
  abbrev at_read : JobStage
  at_read = stage.IdealRead w found

  tells_change : (ideal : Seen) (b : Bool) → changes q w (entries_by ideal.node) ≡ b
      → cond b (goes (stage.IdealSet w found ideal) name.IdealRead outcome.Fine) (ends name.IdealRead outcome.Same (success w)) ≡ Some x
      → Tells q now at_read (read (Ok ideal)) x
  tells_change ideal true is e =
      tells_went q now at_read (read (Ok ideal)) (stage.IdealSet w found ideal) name.IdealRead outcome.Fine x e refl (ideal, refl, is, refl, refl)
  tells_change ideal false is e =
      tells_ended q now at_read (read (Ok ideal)) name.IdealRead outcome.Same (success w) x e refl (inr (ideal, refl, is, refl, succeeds w))

  pub tells_read : (answer : Result Seen StoreRefused) → after_read q w found answer ≡ Some x → Tells q now at_read (read answer) x
  tells_read (Ok ideal) e = tells_change ideal (changes q w (entries_by ideal.node)) refl e
  tells_read (Err NoNode) e = tells_failed q now at_read (read (Err NoNode)) name.IdealRead x e refl (inl (refl, refl))
  tells_read (Err (Exists version)) e = tells_failed q now at_read (read (Err (Exists version))) name.IdealRead x e refl (inl (refl, refl))
  tells_read (Err (VersionChanged expected version)) e =
      tells_failed q now at_read (read (Err (VersionChanged expected version))) name.IdealRead x e refl (inl (refl, refl))
  tells_read (Err Failed) e = tells_failed q now at_read (read (Err Failed)) name.IdealRead x e refl (inl (refl, refl))
  tells_read (Err Memory) e = absurd (cc)

module _ (q : Asked) (now : Moment) (w : Work) (found : List ℕ) (ideal : Seen) (x : Stepping) (few : length found < 10) where
  abbrev at_set : JobStage
  at_set = stage.IdealSet w found ideal

  tells_again : (expected version : ℕ) (b : Bool) → nat_lt (length found) 9 ≡ b
      → cond b
      (goes (stage.IdealRead w (found ++ version ∷ [])) name.IdealSet (outcome.Changed expected version))
      (ends name.IdealSet (outcome.Changed expected version) (status.Failed (cause.IdealChanged (found ++ version ∷ []))))
      ≡ Some x
      → Tells q now at_set (set (Err (VersionChanged expected version))) x
  tells_again expected version true is e =
      tells_went q now at_set (set (Err (VersionChanged expected version))) (stage.IdealRead w (found ++ version ∷ [])) name.IdealSet
      (outcome.Changed expected version) x e refl (expected, version, refl, refl, ltb-true (length found) 9 is, refl)
  tells_again expected version false is e =
      let ten : length (found ++ version ∷ []) ≡ 10 =
      omega (arith, few, ltb-false (length found) 9 is, length-append found (version ∷ [])) in
      tells_ended q now at_set (set (Err (VersionChanged expected version))) name.IdealSet (outcome.Changed expected version)
      (status.Failed (cause.IdealChanged (found ++ version ∷ []))) x e refl (inr (inl (expected, version, refl, refl, ten, refl)))

  tells_set : (answer : Result ℕ StoreRefused) → after_set w found answer ≡ Some x → Tells q now at_set (set answer) x
  tells_set (Ok version) e =
      tells_ended q now at_set (set (Ok version)) name.IdealSet outcome.Fine (success w) x e refl (inr (inr (version, refl, refl, succeeds w)))
  tells_set (Err NoNode) e = tells_failed q now at_set (set (Err NoNode)) name.IdealSet x e refl (inl (refl, refl))
  tells_set (Err (Exists version)) e = tells_failed q now at_set (set (Err (Exists version))) name.IdealSet x e refl (inl (refl, refl))
  tells_set (Err (VersionChanged expected version)) e = tells_again expected version (nat_lt (length found) 9) refl e
  tells_set (Err Failed) e = tells_failed q now at_set (set (Err Failed)) name.IdealSet x e refl (inl (refl, refl))
  tells_set (Err Memory) e = absurd (cc)

-- ---- a step

pub replies_first : (q : Asked) (now : Moment) (from : JobStage) (answer : Answer) (x : Stepping) → IsTrying from
    → step_at q now from answer ≡ Some x → Tells q now from answer x
replies_first q now from answer x t e =
    by_step q now (λ s a y. IsTrying s → Tells q now s a y)
    (λ from end path answer x e t. tells_get q now from end path x answer e)
    (λ from commit answer x e t. tells_done q now from commit x answer e)
    (λ done answer x e t. tells_next q now done x answer e)
    (λ w found answer x e t. tells_read q now w found x answer e)
    (λ w found ideal answer x e t. tells_set q now w found ideal x t answer e)
    from answer x e t

-- ---- a life

stays_trying : (q : Asked) (from : JobStage) (moves : List Move) (to : JobStage) → IsTrying from → GoesOn q from moves to → IsTrying to
stays_trying q from [] to t e = subst IsTrying e t
stays_trying q from (m ∷ ms) to t (x, is, on, rest) = stays_trying q x.stage ms to (falls q m.now from m.answer x t is on).trying rest

pub commit_replies : (q : Asked) (from : Seen) (end : Offset) (path : List ℕ) (moves : List Move) (at : JobStage) (now : Moment) (answer : Answer) (x : Stepping)
    → GoesOn q (stage.Check from end path) moves at → step_at q now at answer ≡ Some x → Tells q now at answer x
commit_replies q from end path moves at now answer x k e =
    replies_first q now at answer x (stays_trying q (stage.Check from end path) moves at tt k) e

pub offline_replies : (q : Asked) (moves : List Move) (at : JobStage) (now : Moment) (answer : Answer) (x : Stepping)
    → GoesOn q (stage.IdealRead work.Offline []) moves at → step_at q now at answer ≡ Some x → Tells q now at answer x
offline_replies q moves at now answer x k e =
    replies_first q now at answer x (stays_trying q (stage.IdealRead work.Offline []) moves at (omega arith) k) e
