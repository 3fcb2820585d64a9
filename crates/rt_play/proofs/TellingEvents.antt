-- What the texts of requests, of jobs that are started, of replies that are taken, of segments that are deleted, and of exchanges tell.
use Rattle.std.proofs.Common.{◌≡◌, ◌<◌, ◌==◌, ◌||◌, ◌⊎◌, inl, ℕ, Bool, true, false, cond, List, [], ◌∷◌, ◌++◌, decimal, codes, Some, None, refl, sym, ◌∙◌, ap, subst, arith, append_assoc}
use Rattle.std.proofs.lemmas.Bool.{false≢true, true≢false}
use Rattle.std.proofs.lemmas.List.{append_cancel_left}
use Rattle.rt_base.specs.declared.numbers.ControllerId.{ControllerId}
use Rattle.rt_base.specs.declared.numbers.Instance.{Instance}
use Rattle.rt_base.specs.declared.numbers.Offset.{Offset}
use Rattle.rt_base.specs.declared.numbers.Partition.{Partition}
use Rattle.rt_base.specs.declared.numbers.Sequence.{Sequence}
use Rattle.rt_events.specs.declared.event.Event.TheVariants as event
use Rattle.rt_events.specs.declared.outcome.Outcome.{Outcome}
use Rattle.rt_events.specs.declared.outcome.Outcome.TheVariants as came
use Rattle.rt_model.proofs.Histories.{same_partition, same_sequence}
use Rattle.rt_model.specs.declared.replica_state.ReplicaState.{ReplicaState}
use Rattle.rt_model.specs.declared.replica_state.ReplicaState.TheVariants as state
use Rattle.rt_model.specs.declared.reply.ReplyStatus.{ReplyStatus}
use Rattle.rt_model.specs.declared.request.Request.{Request}
use Rattle.rt_model.specs.declared.request.RequestKind.{RequestKind}
use Rattle.rt_model.specs.declared.request.RequestKind.TheVariants as kind
use Rattle.rt_msgs.specs.RequestText.{kind_text, request_text}
use Rattle.rt_msgs.specs.StatusText.{status_text}
use Rattle.rt_play.proofs.TellingFronts.{begins, number_begins, past, past_last, past_last_one, past_no_digit, same_number}
use Rattle.rt_play.proofs.TellingKinds.{AreApart, IsIdle, all_alike, kind_of, same_kind, same_tail}
use Rattle.rt_play.proofs.TellingSteps.{success_begins}
use Rattle.rt_play.proofs.ToldNumbers.{same_decimal, tails}
use Rattle.rt_play.specs.AnswerTexts.{IsWord}
use Rattle.rt_play.specs.Ledger.{Notes, Posted, committed_if, exchange_posted, is_commit_end, is_success_status, knows_commit, opens}
use Rattle.rt_play.specs.NotedWords.{FitsWords}
use Rattle.rt_play.specs.Telling.{AreAlike, NoteTheSame}
use Rattle.rt_repair.specs.declared.retiring.RetireStep.TheVariants as retire
use Rattle.rt_report.specs.MacroTexts.{exchanged_text}
use Rattle.rt_report.specs.Outcome.{outcome_text}
use Rattle.rt_report.specs.States.{state_text}
use Rattle.rt_report.specs.Subject.{replica_text, subject_text}

-- what stands behind numbers: a space, a slash, and the end of a line
pub space : 32 < 48 ⊎ 57 < 32
space = inl (omega arith)

slash : 47 < 48 ⊎ 57 < 47
slash = inl (omega arith)

line_end : 10 < 48 ⊎ 57 < 10
line_end = inl (omega arith)

pub same_offset : (p q : Offset) → p.0 ≡ q.0 → p ≡ q
same_offset p q e = let one : ℕ → Offset = λ n. record { 0 = n } in ap one e

-- ---- a job that is started

module _ (m : ℕ) (c : ControllerId) where
  abbrev is_started : Outcome → Bool
  is_started (came.Started job) = true
  is_started other = false

  started_begins : (o : Outcome) → begins (codes "j") (outcome_text (event.Deliver m c) o) ≡ is_started o
  started_begins (came.Shown None) = refl
  started_begins (came.Shown (Some seen)) = refl
  started_begins (came.Up None) = refl
  started_begins (came.Up (Some incarnation)) = refl
  started_begins other = refl

  same_job : (i j : ℕ) → IsWord i → IsWord j → outcome_text (event.Deliver m c) (came.Started i) ≡ outcome_text (event.Deliver m c) (came.Started j) → i ≡ j
  same_job i j p q same =
      let behind = append_cancel_left (subject_text (event.Deliver m c)) (codes " j" ++ (decimal i ++ codes "\n")) (codes " j" ++ (decimal j ++ codes "\n"))
      (append_cancel_left (codes "job ") _ _ same) in
      (same_number i j (codes "\n") (codes "\n") p q line_end line_end (append_cancel_left (codes " j") _ _ behind)).0

  started_own : (a b : Outcome) → is_started a ≡ true → is_started b ≡ true → FitsWords (event.Deliver m c) a → FitsWords (event.Deliver m c) b → outcome_text (event.Deliver m c) a ≡ outcome_text (event.Deliver m c) b
      → AreAlike (event.Deliver m c) a b
  started_own (came.Started i) (came.Started j) k l p q same = record {
    noted = λ notes. ap (λ (n : ℕ). record notes { jobs = opens m c n notes.requests ++ notes.jobs }) (same_job i j p q same);
    tells = λ ranges marks notes so. tt;
  }
  started_own (came.Started i) other k l p q same = absurd (false≢true l)
  started_own other b k l p q same = absurd (false≢true k)

  started_idle : (o : Outcome) → is_started o ≡ false → IsIdle (event.Deliver m c) o
  started_idle (came.Started j) e = absurd (true≢false e)
  started_idle other e = record { noted = λ notes. refl; tells = λ ranges marks notes. tt }

  pub started_alike : (a b : Outcome) → FitsWords (event.Deliver m c) a → FitsWords (event.Deliver m c) b → outcome_text (event.Deliver m c) a ≡ outcome_text (event.Deliver m c) b → AreAlike (event.Deliver m c) a b
  started_alike =
      all_alike (event.Deliver m c) is_started (FitsWords (event.Deliver m c))
      (λ a b same. sym (started_begins a) ∙ ap (begins (codes "j")) same ∙ started_begins b) started_own started_idle

-- ---- a request

commit_end_begins : (x : Offset) (k : RequestKind) (xs : List ℕ) → begins (codes "commitEnd ") (kind_text x k ++ xs) ≡ is_commit_end k
commit_end_begins x (kind.Consumed reason) xs = refl
commit_end_begins x kind.Stopped xs = refl
commit_end_begins x kind.CommitStart xs = refl
commit_end_begins x (kind.Upload path bytes) xs = refl
commit_end_begins x (kind.CommitEnd path) xs = refl
commit_end_begins x (kind.Extend millis) xs = refl

offset_onto : (x : Offset) (path : List ℕ) → ((decimal x.0 ++ codes " ") ++ path) ++ codes "\n" ≡ decimal x.0 ++ 32 ∷ (path ++ codes "\n")
offset_onto x path = append_assoc (decimal x.0 ++ codes " ") path (codes "\n") ∙ append_assoc (decimal x.0) (codes " ") (path ++ codes "\n")

same_end : (x y : Offset) (k l : RequestKind) → is_commit_end k ≡ true → is_commit_end l ≡ true → IsWord x.0 → IsWord y.0
    → kind_text x k ++ codes "\n" ≡ kind_text y l ++ codes "\n" → x ≡ y
same_end x y (kind.CommitEnd path) (kind.CommitEnd other) e f p q same =
    same_offset x y
    (same_number x.0 y.0 (32 ∷ (path ++ codes "\n")) (32 ∷ (other ++ codes "\n")) p q space space
    (sym (offset_onto x path) ∙ append_cancel_left (codes "commitEnd ") _ _ same ∙ offset_onto y other)).0
same_end x y (kind.CommitEnd path) l e f p q same = absurd (false≢true f)
same_end x y k l e f p q same = absurd (false≢true e)

module _ (i : Instance) (p : Partition) (q : Sequence) where
  abbrev is_sent : Outcome → Bool
  is_sent (came.Sent message request) = true
  is_sent other = false

  sent_begins : (o : Outcome) → begins (codes "sent m") (outcome_text (event.Report i p q) o) ≡ is_sent o
  sent_begins (came.Now moment) = number_begins 109 [] moment.0 (codes "\n") refl
  sent_begins (came.Shown None) = refl
  sent_begins (came.Shown (Some seen)) = refl
  sent_begins (came.Up None) = refl
  sent_begins (came.Up (Some incarnation)) = refl
  sent_begins other = refl

  abbrev posted : ℕ → Offset → Posted
  posted message end = record { message = message; segment = record { partition = p; sequence = q }; end = Some end }

  abbrev with_posted : Notes → Bool → ℕ → Offset → Notes
  with_posted notes ends message end = record notes { requests = cond ends (posted message end ∷ notes.requests) notes.requests }

  same_posted : (m n : ℕ) (x y : Request) (notes : Notes) → m ≡ n → is_commit_end x.kind ≡ is_commit_end y.kind
      → (is_commit_end x.kind ≡ true → is_commit_end y.kind ≡ true → x.offset ≡ y.offset)
      → with_posted notes (is_commit_end x.kind) m x.offset ≡ with_posted notes (is_commit_end y.kind) n y.offset
  same_posted m n x y notes message ends end = by_test (is_commit_end x.kind) refl
    where
      by_test : (t : Bool) → is_commit_end x.kind ≡ t → with_posted notes (is_commit_end x.kind) m x.offset ≡ with_posted notes (is_commit_end y.kind) n y.offset
      by_test true e =
          ap (λ (t : Bool). with_posted notes t m x.offset) ends ∙ ap (λ (k : ℕ). with_posted notes (is_commit_end y.kind) k x.offset) message
          ∙ ap (with_posted notes (is_commit_end y.kind) n) (end e (sym ends ∙ e))
      by_test false e =
          ap (λ (t : Bool). with_posted notes t m x.offset) e ∙ sym (ap (λ (t : Bool). with_posted notes t n y.offset) (sym ends ∙ e))

  sent_own : (a b : Outcome) → is_sent a ≡ true → is_sent b ≡ true → FitsWords (event.Report i p q) a → FitsWords (event.Report i p q) b → outcome_text (event.Report i p q) a ≡ outcome_text (event.Report i p q) b
      → AreAlike (event.Report i p q) a b
  sent_own (came.Sent m x) (came.Sent n y) k l v w same =
      let numbers = same_number m n (codes " " ++ (request_text x ++ codes "\n")) (codes " " ++ (request_text y ++ codes "\n")) v.0 w.0 space space
      (append_cancel_left (codes "sent m") _ _ same) in
      let requests = append_cancel_left (codes " ") (request_text x ++ codes "\n") (request_text y ++ codes "\n") numbers.1 in
      let ends = sym (commit_end_begins x.offset x.kind (codes "\n")) ∙ ap (begins (codes "commitEnd ")) requests ∙ commit_end_begins y.offset y.kind (codes "\n") in
      record {
        noted = λ notes. same_posted m n x y notes numbers.0 ends (λ e f. same_end x.offset y.offset x.kind y.kind e f v.1 w.1 requests);
        tells = λ ranges marks notes so. tt;
      }
  sent_own (came.Sent m x) other k l v w same = absurd (false≢true l)
  sent_own other b k l v w same = absurd (false≢true k)

  sent_idle : (o : Outcome) → is_sent o ≡ false → IsIdle (event.Report i p q) o
  sent_idle (came.Sent m x) e = absurd (true≢false e)
  sent_idle other e = record { noted = λ notes. refl; tells = λ ranges marks notes. tt }

  pub requests_alike : (a b : Outcome) → FitsWords (event.Report i p q) a → FitsWords (event.Report i p q) b → outcome_text (event.Report i p q) a ≡ outcome_text (event.Report i p q) b → AreAlike (event.Report i p q) a b
  requests_alike =
      all_alike (event.Report i p q) is_sent (FitsWords (event.Report i p q))
      (λ a b same. sym (sent_begins a) ∙ ap (begins (codes "sent m")) same ∙ sent_begins b) sent_own sent_idle

-- ---- a reply that is taken

-- the state at the end of a line
abbrev knows_in : List ℕ → Bool
knows_in xs = begins (codes "CONSUMING_TO") xs || (begins (codes "RETAIN") xs || begins (codes "COMMITTED") xs)

knows_told : (s : ReplicaState) → knows_in (state_text s ++ codes "\n") ≡ knows_commit s
knows_told state.InitialConsuming = refl
knows_told state.CatchingUp = refl
knows_told state.Holding = refl
knows_told state.ConsumingToOnline = refl
knows_told state.Retaining = refl
knows_told state.Retained = refl
knows_told state.Committing = refl
knows_told state.Committed = refl
knows_told state.Discarded = refl

same_knows : (s t : ReplicaState) → state_text s ++ codes "\n" ≡ state_text t ++ codes "\n" → knows_commit s ≡ knows_commit t
same_knows s t same = sym (knows_told s) ∙ ap knows_in same ∙ knows_told t

-- a replica, and what stands behind it
replica_onto : (i : Instance) (p : Partition) (q : Sequence) (xs : List ℕ)
    → replica_text i p q ++ xs ≡ codes "s" ++ (decimal i.0 ++ 32 ∷ (decimal p.0 ++ 47 ∷ (decimal q.0 ++ xs)))
replica_onto i p q xs =
    ap (λ (t : List ℕ). 115 ∷ t)
    (append_assoc (decimal i.0) (codes " " ++ (decimal p.0 ++ (codes "/" ++ decimal q.0))) xs
    ∙ ap (λ (t : List ℕ). decimal i.0 ++ 32 ∷ t)
    (append_assoc (decimal p.0) (codes "/" ++ decimal q.0) xs))

record SameReplica (i j : Instance) (p q : Partition) (s t : Sequence) (xs ys : List ℕ) : Type 0 where
  partition : p ≡ q
  sequence : s ≡ t
  behind : xs ≡ ys

same_replica : (i j : Instance) (p q : Partition) (s t : Sequence) (xs ys : List ℕ) → IsWord p.0 × IsWord s.0 → IsWord q.0 × IsWord t.0
    → replica_text i p s ++ 32 ∷ xs ≡ replica_text j q t ++ 32 ∷ ys → SameReplica i j p q s t xs ys
same_replica i j p q s t xs ys k l same =
    let whole = append_cancel_left (codes "s") _ _ (sym (replica_onto i p s (32 ∷ xs)) ∙ same ∙ replica_onto j q t (32 ∷ ys)) in
    let a = same_decimal i.0 j.0 (32 ∷ (decimal p.0 ++ 47 ∷ (decimal s.0 ++ 32 ∷ xs))) (32 ∷ (decimal q.0 ++ 47 ∷ (decimal t.0 ++ 32 ∷ ys))) space space whole in
    let b = same_number p.0 q.0 (47 ∷ (decimal s.0 ++ 32 ∷ xs)) (47 ∷ (decimal t.0 ++ 32 ∷ ys)) k.0 l.0 slash slash (tails 32 32 _ _ a.1) in
    let c = same_number s.0 t.0 (32 ∷ xs) (32 ∷ ys) k.1 l.1 space space (tails 47 47 _ _ b.1) in
    record { partition = same_partition p q b.0; sequence = same_sequence s t c.0; behind = tails 32 32 xs ys c.1 }

module _ (m : ℕ) where
  reply_apart : AreApart (event.Reply m)
  reply_apart (came.Replied message reply) is = refl
  reply_apart (came.Started job) is = refl
  reply_apart came.Ignored is = refl
  reply_apart came.Failed is = refl
  reply_apart came.NotServed is = refl
  reply_apart came.NodeDown is = refl
  reply_apart (came.Answered answer) is = refl
  reply_apart (came.Shown None) is = refl
  reply_apart other is = absurd is

  took_own : (a b : Outcome) → (kind_of a == 2) ≡ true → (kind_of b == 2) ≡ true → FitsWords (event.Reply m) a → FitsWords (event.Reply m) b → outcome_text (event.Reply m) a ≡ outcome_text (event.Reply m) b
      → AreAlike (event.Reply m) a b
  took_own (came.Took i p q s) (came.Took j r t u) k l v w same =
      let its = same_replica i j p r q t (state_text s ++ codes "\n") (state_text u ++ codes "\n") v w (append_cancel_left (codes " ") _ _ (same_tail (event.Reply m) _ _ same)) in
      let knows = same_knows s u its.behind in
      record {
        noted = λ notes.
            ap (λ (x : Partition). committed_if (knows_commit s) x q notes) its.partition
            ∙ ap (λ (x : Sequence). committed_if (knows_commit s) r x notes) its.sequence ∙ ap (λ (b : Bool). committed_if b r t notes) knows;
        tells = λ ranges marks notes so. tt;
      }
  took_own (came.Took i p q s) (came.Up None) k l v w same = absurd (false≢true l)
  took_own (came.Took i p q s) (came.Up (Some incarnation)) k l v w same = absurd (false≢true l)
  took_own (came.Took i p q s) (came.Retired (retire.Deleted sequence)) k l v w same = absurd (false≢true l)
  took_own (came.Took i p q s) (came.Retired other) k l v w same = absurd (false≢true l)
  took_own (came.Took i p q s) (came.Shown None) k l v w same = absurd (false≢true l)
  took_own (came.Took i p q s) (came.Shown (Some seen)) k l v w same = absurd (false≢true l)
  took_own (came.Took i p q s) other k l v w same = absurd (false≢true l)
  took_own (came.Up None) b k l v w same = absurd (false≢true k)
  took_own (came.Up (Some incarnation)) b k l v w same = absurd (false≢true k)
  took_own (came.Retired (retire.Deleted sequence)) b k l v w same = absurd (false≢true k)
  took_own (came.Retired other) b k l v w same = absurd (false≢true k)
  took_own (came.Shown None) b k l v w same = absurd (false≢true k)
  took_own (came.Shown (Some seen)) b k l v w same = absurd (false≢true k)
  took_own other b k l v w same = absurd (false≢true k)

  took_idle : (o : Outcome) → (kind_of o == 2) ≡ false → IsIdle (event.Reply m) o
  took_idle (came.Took i p q s) e = absurd (true≢false e)
  took_idle other e = record { noted = λ notes. refl; tells = λ ranges marks notes. tt }

  pub replies_alike : (a b : Outcome) → FitsWords (event.Reply m) a → FitsWords (event.Reply m) b → outcome_text (event.Reply m) a ≡ outcome_text (event.Reply m) b → AreAlike (event.Reply m) a b
  replies_alike = all_alike (event.Reply m) (λ o. kind_of o == 2) (FitsWords (event.Reply m)) (same_kind (event.Reply m) reply_apart 2) took_own took_idle

-- ---- a segment that is deleted

module _ (c : ControllerId) (p : Partition) where
  retain_apart : AreApart (event.Retain c p)
  retain_apart (came.Replied message reply) is = refl
  retain_apart (came.Started job) is = refl
  retain_apart came.Ignored is = refl
  retain_apart came.Failed is = refl
  retain_apart came.NotServed is = refl
  retain_apart came.NodeDown is = refl
  retain_apart (came.Answered answer) is = refl
  retain_apart (came.Shown None) is = refl
  retain_apart other is = absurd is

  record IsDeleted (o : Outcome) : Type 0 where
    sequence : Sequence
    is : o ≡ came.Retired (retire.Deleted sequence)

  only_deleted : (o : Outcome) → (kind_of o == 3) ≡ true → IsDeleted o
  only_deleted (came.Retired (retire.Deleted sequence)) e = record { sequence = sequence; is = refl }
  only_deleted (came.Retired other) e = absurd (false≢true e)
  only_deleted (came.Up None) e = absurd (false≢true e)
  only_deleted (came.Up (Some incarnation)) e = absurd (false≢true e)
  only_deleted (came.Shown None) e = absurd (false≢true e)
  only_deleted (came.Shown (Some seen)) e = absurd (false≢true e)
  only_deleted other e = absurd (false≢true e)

  abbrev deleted_tail : Sequence → List ℕ
  deleted_tail q = codes " deleted " ++ ((decimal p.0 ++ (codes "/" ++ decimal q.0)) ++ codes "\n")

  behind_deleted : (q : Sequence) → (decimal p.0 ++ (codes "/" ++ decimal q.0)) ++ codes "\n" ≡ decimal p.0 ++ 47 ∷ (decimal q.0 ++ codes "\n")
  behind_deleted q = append_assoc (decimal p.0) (codes "/" ++ decimal q.0) (codes "\n")

  same_deleted : (q s : Sequence) → IsWord q.0 → IsWord s.0
      → outcome_text (event.Retain c p) (came.Retired (retire.Deleted q)) ≡ outcome_text (event.Retain c p) (came.Retired (retire.Deleted s)) → q ≡ s
  same_deleted q s k l same =
      let rest = append_cancel_left (codes " deleted ") _ _ (same_tail (event.Retain c p) (deleted_tail q) (deleted_tail s) same) in
      let numbers = append_cancel_left (decimal p.0) _ _ (sym (behind_deleted q) ∙ rest ∙ behind_deleted s) in
      same_sequence q s (same_number q.0 s.0 (codes "\n") (codes "\n") k l line_end line_end (tails 47 47 _ _ numbers)).0

  deleted_own : (a b : Outcome) → (kind_of a == 3) ≡ true → (kind_of b == 3) ≡ true → FitsWords (event.Retain c p) a → FitsWords (event.Retain c p) b
      → outcome_text (event.Retain c p) a ≡ outcome_text (event.Retain c p) b → AreAlike (event.Retain c p) a b
  deleted_own a b k l v w same =
      let x = only_deleted a k in
      let y = only_deleted b l in
      let texts = sym (ap (outcome_text (event.Retain c p)) x.is) ∙ same ∙ ap (outcome_text (event.Retain c p)) y.is in
      let its = same_deleted x.sequence y.sequence (subst (FitsWords (event.Retain c p)) x.is v) (subst (FitsWords (event.Retain c p)) y.is w) texts in
      let whole : a ≡ b = x.is ∙ ap (λ (q : Sequence). came.Retired (retire.Deleted q)) its ∙ sym y.is in
      subst (λ (o : Outcome). AreAlike (event.Retain c p) a o) whole (record { noted = λ notes. refl; tells = λ ranges marks notes so. so })

  deleted_idle : (o : Outcome) → (kind_of o == 3) ≡ false → IsIdle (event.Retain c p) o
  deleted_idle (came.Retired (retire.Deleted sequence)) e = absurd (true≢false e)
  deleted_idle (came.Retired other) e = record { noted = λ notes. refl; tells = λ ranges marks notes. tt }
  deleted_idle other e = record { noted = λ notes. refl; tells = λ ranges marks notes. tt }

  pub deletions_alike : (a b : Outcome) → FitsWords (event.Retain c p) a → FitsWords (event.Retain c p) b → outcome_text (event.Retain c p) a ≡ outcome_text (event.Retain c p) b → AreAlike (event.Retain c p) a b
  deletions_alike = all_alike (event.Retain c p) (λ o. kind_of o == 3) (FitsWords (event.Retain c p)) (same_kind (event.Retain c p) retain_apart 3) deleted_own deleted_idle

-- ---- an exchange

abbrev exchange_behind : ReplyStatus → ReplicaState → List ℕ
exchange_behind status stands = status_text status ++ (codes " " ++ (state_text stands ++ codes "\n"))

-- behind its numbers: behind three spaces
past_numbers : (request reply : ℕ) (status : ReplyStatus) (stands : ReplicaState)
    → past 32 (past 32 (past 32 (exchanged_text request reply status stands))) ≡ exchange_behind status stands
past_numbers request reply status stands =
    let xs = exchange_behind status stands in
    ap (λ (ts : List ℕ). past 32 (past 32 ts)) (append_assoc (decimal request) (codes " m" ++ (decimal reply ++ codes " ")) xs)
    ∙ ap (past 32) (past_no_digit 32 request ((codes " m" ++ (decimal reply ++ codes " ")) ++ xs) refl)
    ∙ ap (past 32) (append_assoc (decimal reply) (codes " ") xs)
    ∙ past_no_digit 32 reply (32 ∷ xs) refl

last_state : (s : ReplicaState) (kept : List ℕ) → past_last 32 kept (state_text s ++ codes "\n") ≡ kept
last_state state.InitialConsuming kept = refl
last_state state.CatchingUp kept = refl
last_state state.Holding kept = refl
last_state state.ConsumingToOnline kept = refl
last_state state.Retaining kept = refl
last_state state.Retained kept = refl
last_state state.Committing kept = refl
last_state state.Committed kept = refl
last_state state.Discarded kept = refl

last_word : (status : ReplyStatus) (stands : ReplicaState) → past_last 32 [] (exchange_behind status stands) ≡ state_text stands ++ codes "\n"
last_word status stands = past_last_one 32 [] (status_text status) (state_text stands ++ codes "\n") ∙ last_state stands (state_text stands ++ codes "\n")

-- behind the number of its request
abbrev request_behind : ℕ → ReplyStatus → ReplicaState → List ℕ
request_behind reply status stands = (codes " m" ++ (decimal reply ++ codes " ")) ++ exchange_behind status stands

request_onto : (request reply : ℕ) (status : ReplyStatus) (stands : ReplicaState)
    → (decimal request ++ (codes " m" ++ (decimal reply ++ codes " "))) ++ exchange_behind status stands ≡ decimal request ++ request_behind reply status stands
request_onto request reply status stands = append_assoc (decimal request) (codes " m" ++ (decimal reply ++ codes " ")) (exchange_behind status stands)

pub exchanges_alike : (m n k l : ℕ) (a b : ReplyStatus) (s t : ReplicaState) → IsWord m → IsWord n → exchanged_text m k a s ≡ exchanged_text n l b t
    → NoteTheSame m a s n b t
exchanges_alike m n k l a b s t v w same =
    let request = (same_number m n (request_behind k a s) (request_behind l b t) v w space space
    (sym (request_onto m k a s) ∙ append_cancel_left (codes "exchanged m") _ _ same ∙ request_onto n l b t)).0 in
    let behind = sym (past_numbers m k a s) ∙ ap (λ (ts : List ℕ). past 32 (past 32 (past 32 ts))) same ∙ past_numbers n l b t in
    let success = sym (success_begins a 32 (state_text s ++ codes "\n") refl) ∙ ap (begins (codes "COMMIT_SUCCESS")) behind ∙ success_begins b 32 (state_text t ++ codes "\n") refl in
    let knows = same_knows s t (sym (last_word a s) ∙ ap (past_last 32 []) behind ∙ last_word b t) in
    let tells : (is_success_status a || knows_commit s) ≡ (is_success_status b || knows_commit t) =
    ap (λ (x : Bool). x || knows_commit s) success ∙ ap (λ (x : Bool). is_success_status b || x) knows
    in
    λ p q notes.
    ap (λ (x : Bool). committed_if x p q (exchange_posted p q m notes)) tells
    ∙ ap (λ (i : ℕ). committed_if (is_success_status b || knows_commit t) p q (exchange_posted p q i notes)) request
