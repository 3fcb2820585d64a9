-- What was taken from an inbox, once the posts of all its senders were gathered into it.
use Rattle.std.proofs.Common.{◌≡◌, ℕ, List, Some, ap, arith, slice_get}
use Rattle.std.proofs.lemmas.Option.{slice_get_within}
use Rattle.rt_link.specs.Ends.{Taking}
use Rattle.rt_live_links.specs.Gathered.{AreGathered, IsGathered}
use Rattle.rt_live_links.specs.declared.node_links.NodeLinks.{NodeLinks}
use Rattle.rt_live_links.proofs.Places.{stands}

-- an inbox that gathered all its senders took what it had taken before
pub record Gathers (senders : List NodeLinks) (k : ℕ) (receiver : NodeLinks) : Type 0 where
  pub inbox : Taking
  pub same : inbox.taken ≡ receiver.inbox.taken
  pub made : inbox.made ≡ receiver.inbox.made
  pub is : IsGathered senders k receiver.inbox inbox

pub gathered_at : (senders receivers : List NodeLinks) (inboxes : List Taking) → AreGathered senders receivers inboxes
    → (k : ℕ) (receiver : NodeLinks) → slice_get receivers k ≡ Some receiver → Gathers senders k receiver
gathered_at senders receivers inboxes gathered k receiver at =
    let there = stands inboxes k (omega (arith, gathered.count, slice_get_within receivers k receiver at)) in
    let is = gathered.each k receiver there.0 at there.1 in
    record {
      inbox = there.0;
      same = ap (λ (i : Taking). i.taken) is.accounts;
      made = ap (λ (i : Taking). i.made) is.accounts;
      is = is;
    }
