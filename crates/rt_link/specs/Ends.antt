-- The two ends of a link, as contracts see them.
use Rattle.std.specs.Prelude.{◌≡◌, ℕ, List, length, slice_index_or, All}
use Rattle.atomic_table.specs.Seated.{TableId}
use Rattle.crossbeam_queue.specs.Passes.{Pass, view, IsPassOf}
use Rattle.crossbeam_queue.specs.declared.array_queue.Doing.{Doing}
use Rattle.crossbeam_queue.specs.declared.array_queue.Slotted.{Slotted}
use Rattle.std.specs.Prelude.{Option}
use Rattle.rt_link.specs.declared.envelope.Envelope.{Envelope}
use Rattle.rt_link.specs.declared.rule.Sent.{Sent}
use Rattle.rt_link.specs.declared.rule.Account.{Account}
use Rattle.rt_link.specs.declared.rule.Knows.{Knows}
use Rattle.rt_link.specs.Delivery.{of, owner, sender}

-- a sender's end: the link, how many envelopes its queue can hold, the sender's number, and what was accepted of it
pub record Sending : Type 0 where
  pub line : TableId
  pub capacity : ℕ
  pub from : ℕ
  pub accepted : List Envelope

-- the owner's end: the link, how many envelopes its queue can hold, the number of senders, what was taken, and the accounts
-- of the gathered senders
pub record Taking : Type 0 where
  pub line : TableId
  pub capacity : ℕ
  pub made : ℕ
  pub taken : List Sent
  pub gathered : List Account

abbrev pub sending : TableId → ℕ → ℕ → List Envelope → Sending
sending line capacity from accepted = record { line = line; capacity = capacity; from = from; accepted = accepted }

abbrev pub taking : TableId → ℕ → ℕ → List Sent → List Account → Taking
taking line capacity made taken gathered =
    record { line = line; capacity = capacity; made = made; taken = taken; gathered = gathered }

-- all that was accepted of the gathered senders was taken
abbrev pub WasDrained : List Sent → List Account → Type 0
WasDrained taken gathered = All (λ a. a.accepted ≡ of a.from taken) gathered

abbrev pub sending_by : ℕ → Pass Sent Knows → Sending
sending_by capacity p = sending p.table_id capacity (view p).mine.from (view p).mine.accepted

abbrev pub taking_by : ℕ → Pass Sent Knows → Taking
taking_by capacity p = taking p.table_id capacity (view p).made (view p).taken (view p).gathered

-- how many were taken of each sender
abbrev pub AreCounts : List ℕ → List Sent → Type 0
AreCounts counts taken = (p : ℕ) → slice_index_or counts p 0 ≡ length (of p taken)

module _ {Q A : Type 0} where
  pub record IsSender (line : Slotted (Option Sent) (Doing Sent Knows) Q A) (ticket : Pass Sent Knows) (from count : ℕ) : Type 0 where
    pub of_line : IsPassOf line ticket
    pub knows : view ticket ≡ sender from (view ticket).mine.accepted
    pub counted : count ≡ length (view ticket).mine.accepted

  pub record IsOwner (line : Slotted (Option Sent) (Doing Sent Knows) Q A) (ticket : Pass Sent Knows) (counts : List ℕ) : Type 0 where
    pub of_line : IsPassOf line ticket
    pub knows : view ticket ≡ owner (view ticket).made (view ticket).taken (view ticket).gathered
    pub made_is : length counts ≡ (view ticket).made
    pub counted : AreCounts counts (view ticket).taken
