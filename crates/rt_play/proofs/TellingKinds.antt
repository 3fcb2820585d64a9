-- Of which kind an outcome is, by the text of its event.
use Rattle.std.proofs.Common.{◌≡◌, ◌<◌, ◌==◌, ◌||◌, ℕ, Bool, true, false, cond, List, [], ◌∷◌, ◌++◌, decimal, codes, length, Option, Some, None, if◌then◌else◌, refl, sym, ◌∙◌, ap, arith, append_assoc}
use Rattle.std.proofs.lemmas.Option.{same_Some}
use Rattle.std.specs.Str.Parse.{AllDigits}
use Rattle.rt_base.specs.declared.numbers.Partition.{Partition}
use Rattle.rt_events.specs.declared.event.Event.{Event}
use Rattle.rt_events.specs.declared.outcome.Outcome.{Outcome}
use Rattle.rt_events.specs.declared.outcome.Outcome.TheVariants as came
use Rattle.rt_meta.specs.Text.{data_at}
use Rattle.rt_model.specs.declared.job_step.StepName.{StepName}
use Rattle.rt_model.specs.declared.job_step.StepName.TheVariants as name
use Rattle.rt_model.specs.declared.node.Node.{Node}
use Rattle.rt_model.specs.declared.node.Node.TheVariants as node
use Rattle.rt_model.specs.declared.node.Seen.{Seen}
use Rattle.rt_model.specs.declared.replica_state.ReplicaState.{ReplicaState}
use Rattle.rt_model.specs.declared.replica_state.ReplicaState.TheVariants as state
use Rattle.rt_model.specs.declared.status.Status.{Status}
use Rattle.rt_model.specs.declared.status.Status.TheVariants.{Abandoned, Done, InProgress}
use Rattle.rt_play.proofs.TellingFronts.{begins, number_begins, number_starts, past_digits, past_number, starts_digit, strip, stripped, other_byte}
use Rattle.rt_play.proofs.ToldNumbers.{numeral}
use Rattle.rt_play.specs.Ledger.{Marks, Notes, Ranges, TellsSo, event_noted}
use Rattle.rt_play.specs.Telling.{AreAlike}
use Rattle.rt_repair.specs.declared.repair_step.RepairStep.{RepairStep}
use Rattle.rt_repair.specs.declared.repair_step.RepairStep.TheVariants as repair
use Rattle.rt_repair.specs.declared.retiring.RetireStep.{RetireStep}
use Rattle.rt_repair.specs.declared.retiring.RetireStep.TheVariants as retire
use Rattle.rt_report.specs.BrokerTexts.{stored_text}
use Rattle.rt_report.specs.Heads.{told_of}
use Rattle.rt_report.specs.MessageTexts.{step_text}
use Rattle.rt_report.specs.NodeTexts.{repair_text, retire_text}
use Rattle.rt_report.specs.Outcome.{outcome_text}
use Rattle.rt_report.specs.States.{state_text}
use Rattle.rt_report.specs.Subject.{partition_of, subject_text}
use Rattle.rt_report.specs.Words.{told_text}
use Rattle.serde_json.specs.Written.{compact_text}

-- ---- behind the head of a report

abbrev pub head_of : Event → List ℕ
head_of e = told_text e ++ (codes " " ++ subject_text e)

pub told_tail : (e : Event) (tail : List ℕ) → strip (head_of e) (told_of e tail) ≡ Some tail
told_tail e tail =
    ap (strip (head_of e)) (sym (append_assoc (told_text e) (codes " " ++ subject_text e) tail)) ∙ stripped (head_of e) tail

pub same_tail : (e : Event) (xs ys : List ℕ) → told_of e xs ≡ told_of e ys → xs ≡ ys
same_tail e xs ys same = same_Some xs ys (sym (told_tail e xs) ∙ ap (strip (head_of e)) same ∙ told_tail e ys)

-- ---- kinds: a number (1), what a replica took (2), a segment that was deleted (3), a step of a job (4), a node (5), and all else

abbrev step_word : List ℕ → Bool
step_word xs =
    begins (codes "check ") xs
    || (begins (codes "done ") xs || (begins (codes "next ") xs || (begins (codes "idealRead ") xs || begins (codes "idealSet ") xs)))

abbrev letter_kind : List ℕ → ℕ
letter_kind xs = if begins (codes "s") xs then 2 else (if begins (codes "deleted ") xs then 3 else (if step_word xs then 4 else 0))

-- behind a number
abbrev after_kind : List ℕ → ℕ
after_kind xs = if begins (codes " {") xs then 5 else (if begins (codes " -") xs then 5 else 1)

abbrev word_kind : List ℕ → ℕ
word_kind xs = if starts_digit xs then after_kind (past_digits xs) else letter_kind xs

abbrev tail_kind : List ℕ → ℕ
tail_kind [] = 0
tail_kind (x ∷ xs) = if x == 32 then word_kind xs else 0

abbrev kind_behind : Option (List ℕ) → ℕ
kind_behind None = 0
kind_behind (Some tail) = tail_kind tail

abbrev pub kind_in : Event → List ℕ → ℕ
kind_in e text = kind_behind (strip (head_of e) text)

abbrev retired_kind : RetireStep → ℕ
retired_kind (retire.Deleted sequence) = 3
retired_kind other = 0

abbrev up_kind : Option ℕ → ℕ
up_kind None = 0
up_kind (Some incarnation) = 1

abbrev shown_kind : Option Seen → ℕ
shown_kind None = 0
shown_kind (Some seen) = 5

abbrev pub kind_of : Outcome → ℕ
kind_of (came.Up incarnation) = up_kind incarnation
kind_of (came.SawIdeal version) = 1
kind_of (came.Routed pieces) = 1
kind_of (came.Served range) = 1
kind_of (came.Took instance partition sequence stands) = 2
kind_of (came.Retired step) = retired_kind step
kind_of (came.Stepped step message) = 4
kind_of (came.Shown seen) = shown_kind seen
kind_of other = 0

-- ---- words

number_tail : (n : ℕ) (xs : List ℕ) → tail_kind (decimal n ++ xs) ≡ 0
number_tail n xs = by_digits (decimal n) (numeral n).0 (numeral n).1
  where
    by_digits : (ds : List ℕ) → AllDigits 10 ds → 0 < length ds → tail_kind (ds ++ xs) ≡ 0
    by_digits [] d some = absurd (omega (arith, some))
    by_digits (c ∷ cs) d some = ap (λ (b : Bool). cond b (word_kind (cs ++ xs)) 0) (other_byte c 32 cs refl d)

number_word : (n : ℕ) (xs : List ℕ) → word_kind (decimal n ++ xs) ≡ after_kind (past_digits xs)
number_word n xs =
    ap (λ (b : Bool). cond b (after_kind (past_digits (decimal n ++ xs))) (letter_kind (decimal n ++ xs))) (number_starts n xs)
    ∙ ap after_kind (past_number n xs)

-- a number behind a number
number_after : (n : ℕ) (xs : List ℕ) → after_kind (32 ∷ (decimal n ++ xs)) ≡ 1
number_after n xs =
    ap (λ (b : Bool). cond b 5 (cond (begins (codes "-") (decimal n ++ xs)) 5 1)) (number_begins 123 [] n xs refl)
    ∙ ap (λ (b : Bool). cond b 5 1) (number_begins 45 [] n xs refl)

-- a node behind a number
node_after : (n : Node) (xs : List ℕ) → after_kind (32 ∷ (stored_text n ++ xs)) ≡ 5
node_after (node.Meta m) xs = by_status m.status
  where
    by_status : (s : Status) → after_kind (32 ∷ (compact_text (data_at m s) ++ xs)) ≡ 5
    by_status InProgress = refl
    by_status (Done commit) = refl
    by_status Abandoned = refl
node_after (node.Ideal ideal) xs = refl
node_after node.Boot xs = refl
node_after node.Gone xs = refl

state_word : (s : ReplicaState) (xs : List ℕ) → word_kind (state_text s ++ xs) ≡ 0
state_word state.InitialConsuming xs = refl
state_word state.CatchingUp xs = refl
state_word state.Holding xs = refl
state_word state.ConsumingToOnline xs = refl
state_word state.Retaining xs = refl
state_word state.Retained xs = refl
state_word state.Committing xs = refl
state_word state.Committed xs = refl
state_word state.Discarded xs = refl

stepped_word : (s : StepName) (xs : List ℕ) → word_kind (step_text s ++ 32 ∷ xs) ≡ 4
stepped_word name.Check xs = refl
stepped_word name.Done xs = refl
stepped_word name.Next xs = refl
stepped_word name.IdealRead xs = refl
stepped_word name.IdealSet xs = refl

repaired_word : (p : Partition) (s : RepairStep) → word_kind (repair_text p s ++ codes "\n") ≡ 0
repaired_word p repair.Listed = refl
repaired_word p repair.IdealRead = refl
repaired_word p (repair.Created sequence) = refl
repaired_word p (repair.Exists sequence) = refl
repaired_word p (repair.Abandoned sequence) = refl
repaired_word p (repair.IdealSet version) = refl
repaired_word p (repair.Changed expected found) = refl
repaired_word p (repair.Gone sequence) = refl
repaired_word p repair.Nothing = refl
repaired_word p repair.Failed = refl

retired_word : (p : Partition) (s : RetireStep) → word_kind (retire_text p s ++ codes "\n") ≡ retired_kind s
retired_word p retire.Listed = refl
retired_word p retire.IdealRead = refl
retired_word p (retire.Removed sequence version) = refl
retired_word p (retire.Deleted sequence) = refl
retired_word p (retire.Changed expected found) = refl
retired_word p (retire.Gone sequence) = refl
retired_word p retire.Nothing = refl
retired_word p retire.Failed = refl

-- ---- outcomes

-- those whose reports begin with a word of their own
abbrev pub IsUntold : Outcome → Type 0
IsUntold (came.Replied message reply) = Unit {0}
IsUntold (came.Started job) = Unit {0}
IsUntold came.Ignored = Unit {0}
IsUntold came.Failed = Unit {0}
IsUntold came.NotServed = Unit {0}
IsUntold came.NodeDown = Unit {0}
IsUntold (came.Answered answer) = Unit {0}
IsUntold (came.Shown None) = Unit {0}
IsUntold other = ⊥

-- that word isn't the one of the event
abbrev pub AreApart : Event → Type 0
AreApart e = (o : Outcome) → IsUntold o → strip (head_of e) (outcome_text e o) ≡ None

module _ (e : Event) (apart : AreApart e) where
  kinded : (tail : List ℕ) → kind_in e (told_of e tail) ≡ tail_kind tail
  kinded tail = ap kind_behind (told_tail e tail)

  unkinded : (o : Outcome) → IsUntold o → kind_in e (outcome_text e o) ≡ 0
  unkinded o is = ap kind_behind (apart o is)

  pub kind_told : (o : Outcome) → kind_in e (outcome_text e o) ≡ kind_of o
  kind_told (came.Produced offset) = kinded _
  kind_told (came.Now moment) = kinded _ ∙ number_tail moment.0 (codes "\n")
  kind_told came.Noted = kinded _
  kind_told (came.Consumed cur rows stands) = kinded _
  kind_told (came.Stands stands) = kinded _ ∙ state_word stands (codes "\n")
  kind_told (came.Built rows stands) = kinded _
  kind_told (came.Sent message request) = kinded _
  kind_told (came.Replied message reply) = unkinded (came.Replied message reply) tt
  kind_told (came.Started job) = unkinded (came.Started job) tt
  kind_told (came.Stepped did message) = kinded _ ∙ stepped_word did.step _
  kind_told (came.Took instance partition sequence stands) = kinded _
  kind_told came.Ignored = unkinded came.Ignored tt
  kind_told came.Down = kinded _
  kind_told (came.Up None) = kinded _
  kind_told (came.Up (Some incarnation)) = kinded _ ∙ number_word incarnation (codes "\n")
  kind_told (came.SawIdeal version) = kinded _ ∙ number_word version (codes "\n")
  kind_told (came.Loaded rows) = kinded _
  kind_told came.Failed = unkinded came.Failed tt
  kind_told (came.Repaired step) = kinded _ ∙ repaired_word (partition_of e) step
  kind_told (came.Retired step) = kinded _ ∙ retired_word (partition_of e) step
  kind_told (came.Asked query) = kinded _
  kind_told (came.Routed pieces) = kinded _ ∙ number_word pieces (codes "\n")
  kind_told (came.Served range) = kinded _ ∙ number_word range.start.0 _ ∙ number_after range.end.0 (codes "\n")
  kind_told came.NotServed = unkinded came.NotServed tt
  kind_told came.NodeDown = unkinded came.NodeDown tt
  kind_told (came.Answered answer) = unkinded (came.Answered answer) tt
  kind_told (came.Shown None) = unkinded (came.Shown None) tt
  kind_told (came.Shown (Some seen)) = kinded _ ∙ number_word seen.version _ ∙ node_after seen.node (codes "\n")

  pub same_kind : (k : ℕ) (a b : Outcome) → outcome_text e a ≡ outcome_text e b → (kind_of a == k) ≡ (kind_of b == k)
  same_kind k a b same = ap (λ (n : ℕ). n == k) (sym (kind_told a) ∙ ap (kind_in e) same ∙ kind_told b)

-- ---- outcomes of one text

-- nothing is noted of it, and nothing told
pub record IsIdle (e : Event) (o : Outcome) : Type 0 where
  pub noted : (notes : Notes) → event_noted e o notes ≡ notes
  pub tells : (ranges : Ranges) (marks : Marks) (notes : Notes) → TellsSo ranges marks notes e o

-- where the text tells whether it is of these outcomes, the others are idle, and these are alike, all are
module _ (e : Event) (is : Outcome → Bool) (Fit : Outcome → Type 0)
    (same_is : (a b : Outcome) → outcome_text e a ≡ outcome_text e b → is a ≡ is b)
    (own : (a b : Outcome) → is a ≡ true → is b ≡ true → Fit a → Fit b → outcome_text e a ≡ outcome_text e b → AreAlike e a b)
    (idle : (o : Outcome) → is o ≡ false → IsIdle e o) where
  pub all_alike : (a b : Outcome) → Fit a → Fit b → outcome_text e a ≡ outcome_text e b → AreAlike e a b
  all_alike a b p q same = by_test (is a) refl
    where
      by_test : (t : Bool) → is a ≡ t → AreAlike e a b
      by_test true k = own a b k (sym (same_is a b same) ∙ k) p q same
      by_test false k =
          let x = idle a k in
          let y = idle b (sym (same_is a b same) ∙ k) in
          record { noted = λ notes. x.noted notes ∙ sym (y.noted notes); tells = λ ranges marks notes so. y.tells ranges marks notes }
