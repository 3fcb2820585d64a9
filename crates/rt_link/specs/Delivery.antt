-- What a queue delivers: of each sender, what was accepted of it, in order.
use Rattle.std.specs.Prelude.{◌≡◌, ℕ, ◌+◌, ◌<◌, ◌≤◌, ◌==◌, Bool, true, false, List, [], ◌∷◌, ◌++◌, if◌then◌else◌, All}
use mathlib.Core.Option.{some}
use lib.ListN.{get_elem?}
use Rattle.rt_lists.specs.Members.{IsFront}
use Rattle.rt_link.specs.declared.envelope.Envelope.{Envelope}
use Rattle.rt_link.specs.declared.rule.Sent.{Sent}
use Rattle.rt_link.specs.declared.rule.Account.{Account}
use Rattle.rt_link.specs.declared.rule.Knows.{Knows}

-- the envelopes of a sender, in order
abbrev pub of : ℕ → List Sent → List Envelope
of p [] = []
of p (x ∷ xs) = if x.sender == p then x.envelope ∷ of p xs else of p xs

abbrev pub sent : ℕ → Envelope → Sent
sent p e = record { sender = p; envelope = e }

abbrev pub account : ℕ → List Envelope → Account
account from accepted = record { from = from; accepted = accepted }

-- ---- what a pass knows

abbrev pub knows : Bool → ℕ → List Sent → List Account → Bool → Account → Knows
knows owns made taken gathered sends mine =
    record { owns = owns; made = made; taken = taken; gathered = gathered; sends = sends; mine = mine }

abbrev pub owner : ℕ → List Sent → List Account → Knows
owner made taken gathered = knows true made taken gathered false (account 0 [])

abbrev pub sender : ℕ → List Envelope → Knows
sender from accepted = knows false 0 [] [] true (account from accepted)

abbrev pub idle : Knows
idle = knows false 0 [] [] false (account 0 [])

-- ---- what a step makes of it

abbrev pub maker : Knows → Knows
maker v = owner (v.made + 1) v.taken v.gathered

abbrev pub next_sender : Knows → Knows
next_sender v = sender v.made []

abbrev pub gatherer : Knows → Knows → Knows
gatherer v w = owner v.made v.taken (v.gathered ++ account w.mine.from w.mine.accepted ∷ [])

abbrev pub Accepts : Knows → Sent → Knows → Type 0
Accepts v x w = w ≡ sender v.mine.from (v.mine.accepted ++ x.envelope ∷ [])

abbrev pub TakesOne : Knows → Sent → Knows → Type 0
TakesOne v x w = (w ≡ owner v.made (v.taken ++ x ∷ []) v.gathered) × (x.sender < v.made)

-- ---- what is learned of what was taken

-- of each gathered sender, what was taken and what is queued is what was accepted of it; and nothing is of others
-- than the senders
pub record AddsUp (made : ℕ) (taken : List Sent) (gathered : List Account) (items : List Sent) : Type 0 where
  pub whole : All (λ a. a.accepted ≡ of a.from (taken ++ items)) gathered
  pub none_else : (p : ℕ) → made ≤ p → of p (taken ++ items) ≡ []

abbrev pub TookInOrder : List Sent → List Account → Type 0
TookInOrder taken gathered = All (λ a. IsFront (of a.from taken) a.accepted) gathered

abbrev pub TookOfSenders : ℕ → List Sent → Type 0
TookOfSenders made taken = (p : ℕ) → made ≤ p → of p taken ≡ []

-- ---- the rule

-- a sender's pass: it alone has the sender's number, and it knows all that was accepted of it
pub record FitsSender (made : ℕ) (seat : ℕ → ℕ) (all : List Sent) (pass : ℕ) (v : Knows) : Type 0 where
  pub here : seat v.mine.from ≡ pass
  pub accepted : v.mine.accepted ≡ of v.mine.from all
  pub known : v.mine.from < made

-- the owner's pass: it knows what was taken, and has the numbers of the senders that it gathered
pub record FitsOwner (made place : ℕ) (seat : ℕ → ℕ) (all taken : List Sent) (pass : ℕ) (v : Knows) : Type 0 where
  pub here : pass ≡ place
  pub made_is : v.made ≡ made
  pub taken_is : v.taken ≡ taken
  pub gathered : All (λ a. (seat a.from ≡ pass) × (a.accepted ≡ of a.from all) × (a.from < made)) v.gathered

pub record Fits (made place : ℕ) (seat : ℕ → ℕ) (all taken : List Sent) (pass : ℕ) (v : Knows) : Type 0 where
  pub sends : v.sends ≡ true → FitsSender made seat all pass v
  pub owns : v.owns ≡ true → FitsOwner made place seat all taken pass v

-- what was taken, followed by what is queued, is of each sender what was accepted of it, as the sender's pass or the
-- owner's knows
pub record Delivers (items : List Sent) (views : List Knows) : Type 0 where
  pub made : ℕ
  pub place : ℕ
  pub seat : ℕ → ℕ
  pub taken : List Sent
  pub none_else : (p : ℕ) → made ≤ p → of p (taken ++ items) ≡ []
  pub passes : (pass : ℕ) (v : Knows) → get_elem? views pass ≡ some v → Fits made place seat (taken ++ items) taken pass v
