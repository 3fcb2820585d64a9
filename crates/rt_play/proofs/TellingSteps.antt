-- What the text of a step of a job tells: whether it tells of a commit, and whether the job goes on.
use Rattle.std.proofs.Common.{◌≡◌, ◌==◌, ◌||◌, ◌&&◌, ℕ, Bool, true, false, cond, not, is_none, List, [], ◌∷◌, ◌++◌, decimal, codes, Option, Some, None, refl, sym, ◌∙◌, ap, subst, append_assoc}
use Rattle.std.proofs.lemmas.Bool.{false≢true, true≢false}
use Rattle.std.specs.List.{filter}
use Rattle.rt_base.specs.declared.numbers.ControllerId.{ControllerId}
use Rattle.rt_events.specs.declared.event.Event.TheVariants as event
use Rattle.rt_events.specs.declared.outcome.Outcome.{Outcome}
use Rattle.rt_events.specs.declared.outcome.Outcome.TheVariants as came
use Rattle.rt_model.specs.declared.job_step.JobStep.{JobStep}
use Rattle.rt_model.specs.declared.job_step.StepName.{StepName}
use Rattle.rt_model.specs.declared.job_step.StepName.TheVariants as name
use Rattle.rt_model.specs.declared.job_step.StepOutcome.{StepOutcome}
use Rattle.rt_model.specs.declared.job_step.StepOutcome.TheVariants as outcome
use Rattle.rt_model.specs.declared.reply.FailCause.{FailCause}
use Rattle.rt_model.specs.declared.reply.FailCause.TheVariants as cause
use Rattle.rt_model.specs.declared.reply.Reply.{Reply}
use Rattle.rt_model.specs.declared.reply.ReplyStatus.{ReplyStatus}
use Rattle.rt_model.specs.declared.reply.ReplyStatus.TheVariants as status
use Rattle.rt_msgs.specs.StatusText.{fail_text, status_text}
use Rattle.rt_play.proofs.TellingFronts.{begins, past, past_no_digit}
use Rattle.rt_play.proofs.TellingKinds.{AreApart, IsIdle, all_alike, kind_of, same_kind, same_tail}
use Rattle.rt_play.specs.Ledger.{IsPaired, Notes, Working, event_noted, is_done_step, is_job, is_success, is_success_status, left_open, segments_of, tells_commit}
use Rattle.rt_play.specs.Telling.{AreAlike}
use Rattle.rt_repair.specs.declared.retiring.RetireStep.TheVariants as retire
use Rattle.rt_report.specs.MessageTexts.{came_text, ending_text, step_text}
use Rattle.rt_report.specs.Outcome.{outcome_text}

-- ---- a status

failed_begins : (c : FailCause) (xs : List ℕ) → begins (codes "COMMIT_SUCCESS") (fail_text c ++ xs) ≡ false
failed_begins (cause.WrongState stands) xs = refl
failed_begins (cause.WrongOffset asked kept) xs = refl
failed_begins (cause.NotCommitter committer) xs = refl
failed_begins cause.NoSegment xs = refl
failed_begins (cause.VersionChanged expected found) xs = refl
failed_begins cause.StoreFault xs = refl
failed_begins (cause.BadUpload wanted found) xs = refl
failed_begins (cause.IdealChanged versions) xs = refl
failed_begins cause.NotReplica xs = refl

-- COMMIT_SUCCESS is told of a success alone
pub success_begins : (s : ReplyStatus) (x : ℕ) (xs : List ℕ) → (x == 95) ≡ false → begins (codes "COMMIT_SUCCESS") (status_text s ++ x ∷ xs) ≡ is_success_status s
success_begins status.Hold x xs unlike = refl
success_begins (status.CatchUp offset) x xs unlike = refl
success_begins (status.Keep seen) x xs unlike = refl
success_begins status.Discard x xs unlike = refl
success_begins (status.Commit offset) x xs unlike = refl
success_begins status.NotLeader x xs unlike = refl
success_begins status.CommitContinue x xs unlike = refl
success_begins (status.UploadSuccess path) x xs unlike = refl
success_begins (status.CommitSuccess seen) x xs unlike = refl
success_begins status.Processed x xs unlike = refl
success_begins (status.Failed c) x xs unlike = failed_begins c (x ∷ xs)

-- ---- the end of a step, behind the letter y, which the words before it don't have

past_step : (s : StepName) (xs : List ℕ) → past 121 (step_text s ++ xs) ≡ past 121 xs
past_step name.Check xs = refl
past_step name.Done xs = refl
past_step name.Next xs = refl
past_step name.IdealRead xs = refl
past_step name.IdealSet xs = refl

past_came : (o : StepOutcome) (xs : List ℕ) → past 121 (came_text o ++ xs) ≡ past 121 xs
past_came outcome.Fine xs = refl
past_came outcome.Exists xs = refl
past_came (outcome.Changed expected found) xs =
    ap (past 121) (append_assoc (decimal expected) (codes " " ++ decimal found) xs) ∙ past_no_digit 121 expected (32 ∷ (decimal found ++ xs)) refl ∙ past_no_digit 121 found xs refl
past_came outcome.NoNode xs = refl
past_came outcome.Bad xs = refl
past_came outcome.Same xs = refl
past_came outcome.Gone xs = refl
past_came outcome.Failed xs = refl

-- a reply is told of, and a success
abbrev is_told : List ℕ → Bool
is_told [] = false
is_told (x ∷ xs) = true

abbrev is_success_told : List ℕ → Bool
is_success_told xs = begins (codes "COMMIT_SUCCESS") (past 32 (past 109 xs))

abbrev ending : Option ℕ → Option Reply → List ℕ
ending message reply = past 121 (ending_text message reply ++ codes "\n")

told_reply : (message : Option ℕ) (reply : Option Reply) → is_none message ≡ is_none reply → is_told (ending message reply) ≡ not (is_none reply)
told_reply None None same = refl
told_reply None (Some reply) same = absurd (true≢false same)
told_reply (Some message) None same = absurd (false≢true same)
told_reply (Some message) (Some reply) same = refl

told_success : (message : Option ℕ) (reply : Option Reply) → is_none message ≡ is_none reply → is_success_told (ending message reply) ≡ is_success reply
told_success None None same = refl
told_success None (Some reply) same = absurd (true≢false same)
told_success (Some message) None same = absurd (false≢true same)
told_success (Some message) (Some reply) same =
    ap (λ (xs : List ℕ). begins (codes "COMMIT_SUCCESS") (past 32 xs)) (append_assoc (decimal message) (codes " " ++ status_text reply.status) (codes "\n"))
    ∙ ap (begins (codes "COMMIT_SUCCESS")) (past_no_digit 32 message (32 ∷ (status_text reply.status ++ codes "\n")) refl)
    ∙ success_begins reply.status 10 [] refl

-- ---- a step

abbrev step_tail : JobStep → Option ℕ → List ℕ
step_tail did message = codes " " ++ (step_text did.step ++ (codes " " ++ (came_text did.outcome ++ (ending_text message did.reply ++ codes "\n"))))

done_begins : (s : StepName) (xs : List ℕ) → begins (codes " done ") (32 ∷ (step_text s ++ 32 ∷ xs)) ≡ is_done_step s
done_begins name.Check xs = refl
done_begins name.Done xs = refl
done_begins name.Next xs = refl
done_begins name.IdealRead xs = refl
done_begins name.IdealSet xs = refl

past_tail : (did : JobStep) (message : Option ℕ) → past 121 (step_tail did message) ≡ ending message did.reply
past_tail did message = past_step did.step _ ∙ past_came did.outcome (ending_text message did.reply ++ codes "\n")

module _ (a b : JobStep) (m n : Option ℕ) (p : is_none m ≡ is_none a.reply) (q : is_none n ≡ is_none b.reply) (same : step_tail a m ≡ step_tail b n) where
  same_ending : ending m a.reply ≡ ending n b.reply
  same_ending = sym (past_tail a m) ∙ ap (past 121) same ∙ past_tail b n

  same_name : is_done_step a.step ≡ is_done_step b.step
  same_name = sym (done_begins a.step _) ∙ ap (begins (codes " done ")) same ∙ done_begins b.step _

  same_success : is_success a.reply ≡ is_success b.reply
  same_success = sym (told_success m a.reply p) ∙ ap is_success_told same_ending ∙ told_success n b.reply q

  same_none : is_none a.reply ≡ is_none b.reply
  same_none = not_not (is_none a.reply) (is_none b.reply) (sym (told_reply m a.reply p) ∙ ap is_told same_ending ∙ told_reply n b.reply q)
    where
      not_not : (x y : Bool) → not x ≡ not y → x ≡ y
      not_not true true e = refl
      not_not true false e = absurd (false≢true e)
      not_not false true e = absurd (true≢false e)
      not_not false false e = refl

  same_commit : tells_commit a ≡ tells_commit b
  same_commit =
      ap (λ (t : Bool). t || (is_done_step a.step && is_none a.reply)) same_success
      ∙ ap (λ (t : Bool). is_success b.reply || (t && is_none a.reply)) same_name
      ∙ ap (λ (t : Bool). is_success b.reply || (is_done_step b.step && t)) same_none

-- ---- an event

module _ (c : ControllerId) (j : ℕ) where
  left_by : (r : Option Reply) (jobs : List Working) → left_open c j r jobs ≡ cond (is_none r) jobs (filter (λ (w : Working). not (is_job c j w)) jobs)
  left_by None jobs = refl
  left_by (Some reply) jobs = refl

  abbrev noted_by : Notes → Bool → Bool → Notes
  noted_by notes on tells = record notes {
    jobs = cond on notes.jobs (filter (λ (w : Working). not (is_job c j w)) notes.jobs);
    committed = cond tells (segments_of c j notes.jobs ++ notes.committed) notes.committed;
  }

  noted_so : (did : JobStep) (message : Option ℕ) (notes : Notes) → event_noted (event.Job c j) (came.Stepped did message) notes ≡ noted_by notes (is_none did.reply) (tells_commit did)
  noted_so did message notes =
      ap (λ (jobs : List Working). record notes { jobs = jobs; committed = cond (tells_commit did) (segments_of c j notes.jobs ++ notes.committed) notes.committed })
      (left_by did.reply notes.jobs)

  apart : AreApart (event.Job c j)
  apart (came.Replied message reply) is = refl
  apart (came.Started job) is = refl
  apart came.Ignored is = refl
  apart came.Failed is = refl
  apart came.NotServed is = refl
  apart came.NodeDown is = refl
  apart (came.Answered answer) is = refl
  apart (came.Shown None) is = refl
  apart other is = absurd is

  record IsStepped (o : Outcome) : Type 0 where
    did : JobStep
    message : Option ℕ
    is : o ≡ came.Stepped did message

  only_stepped : (o : Outcome) → (kind_of o == 4) ≡ true → IsStepped o
  only_stepped (came.Stepped did message) e = record { did = did; message = message; is = refl }
  only_stepped (came.Up None) e = absurd (false≢true e)
  only_stepped (came.Up (Some incarnation)) e = absurd (false≢true e)
  only_stepped (came.Retired (retire.Deleted sequence)) e = absurd (false≢true e)
  only_stepped (came.Retired other) e = absurd (false≢true e)
  only_stepped (came.Shown None) e = absurd (false≢true e)
  only_stepped (came.Shown (Some seen)) e = absurd (false≢true e)
  only_stepped other e = absurd (false≢true e)

  idle : (o : Outcome) → (kind_of o == 4) ≡ false → IsIdle (event.Job c j) o
  idle (came.Stepped did message) e = absurd (true≢false e)
  idle other e = record { noted = λ notes. refl; tells = λ ranges marks notes. tt }

  abbrev Same : Outcome → Outcome → Type 0
  Same a b = outcome_text (event.Job c j) a ≡ outcome_text (event.Job c j) b

  both : (a b : JobStep) (m n : Option ℕ) → is_none m ≡ is_none a.reply → is_none n ≡ is_none b.reply → Same (came.Stepped a m) (came.Stepped b n)
      → AreAlike (event.Job c j) (came.Stepped a m) (came.Stepped b n)
  both a b m n p q same =
      let tails = same_tail (event.Job c j) (step_tail a m) (step_tail b n) same in
      let commit = same_commit a b m n p q tails in
      let none = same_none a b m n p q tails in
      record {
        noted = λ notes.
            noted_so a m notes ∙ ap (λ (t : Bool). noted_by notes t (tells_commit a)) none
            ∙ ap (λ (t : Bool). noted_by notes (is_none b.reply) t) commit ∙ sym (noted_so b n notes);
        tells = λ ranges marks notes so w told has is. so w (commit ∙ told) has is;
      }

  own : (a b : Outcome) → (kind_of a == 4) ≡ true → (kind_of b == 4) ≡ true → IsPaired (event.Job c j) a → IsPaired (event.Job c j) b → Same a b → AreAlike (event.Job c j) a b
  own a b k l p q same =
      let s = only_stepped a k in
      let t = only_stepped b l in
      let texts : Same (came.Stepped s.did s.message) (came.Stepped t.did t.message) =
      sym (ap (outcome_text (event.Job c j)) s.is) ∙ same ∙ ap (outcome_text (event.Job c j)) t.is
      in
      subst (λ (x : Outcome). AreAlike (event.Job c j) x b) (sym s.is)
      (subst (λ (x : Outcome). AreAlike (event.Job c j) (came.Stepped s.did s.message) x) (sym t.is)
      (both s.did t.did s.message t.message (subst (IsPaired (event.Job c j)) s.is p) (subst (IsPaired (event.Job c j)) t.is q) texts))

  pub steps_alike : (a b : Outcome) → IsPaired (event.Job c j) a → IsPaired (event.Job c j) b → Same a b → AreAlike (event.Job c j) a b
  steps_alike = all_alike (event.Job c j) (λ o. kind_of o == 4) (IsPaired (event.Job c j)) (same_kind (event.Job c j) apart 4) own idle
