-- How many envelopes each queue accepted of its sender, and how many of these its receiver took.
use Rattle.std.specs.Prelude.{◌≡◌, ℕ, ◌+◌, List, [], ◌∷◌, length, All, Some, slice_get}
use Rattle.rt_link.specs.Delivery.{of}
use Rattle.rt_link.specs.Ends.{Sending, Taking}
use Rattle.rt_live_links.specs.declared.node_links.NodeLinks.{NodeLinks}
use Rattle.rt_live_output.specs.declared.journal.Queue.{Queue}

-- the queue of the sender of this number to an inbox
abbrev pub queue : ℕ → Sending → Taking → Queue
queue sender post inbox = record { accepted = length post.accepted; taken = length (of sender inbox.taken) }

-- the queues of one sender, to each receiver
abbrev pub queues_of : ℕ → List Sending → List NodeLinks → List Queue
queues_of sender [] receivers = []
queues_of sender (post ∷ posts) [] = []
queues_of sender (post ∷ posts) (receiver ∷ receivers) =
    queue sender post receiver.inbox ∷ queues_of sender posts receivers

-- the queues of these senders, of which the first has this number
abbrev pub queues_from : ℕ → List NodeLinks → List NodeLinks → List (List Queue)
queues_from number [] receivers = []
queues_from number (sender ∷ senders) receivers =
    queues_of number sender.posts.items receivers ∷ queues_from (number + 1) senders receivers

abbrev pub queues : List NodeLinks → List NodeLinks → List (List Queue)
queues senders receivers = queues_from 0 senders receivers

-- a row for each of so many senders, each with the counts for so many receivers
pub record HasCounts (senders receivers : ℕ) (counts : List (List Queue)) : Type 0 where
  pub rows : length counts ≡ senders
  pub each : All (λ row. length row ≡ receivers) counts

-- the counts of the queue from the sender of one number to the receiver of another
pub record IsCounted (senders receivers : List NodeLinks) (from to : ℕ) (counts : Queue) : Type 0 where
  pub sender : NodeLinks
  pub receiver : NodeLinks
  pub post : Sending
  pub sends : slice_get senders from ≡ Some sender
  pub receives : slice_get receivers to ≡ Some receiver
  pub posts : slice_get sender.posts.items to ≡ Some post
  pub accepted : counts.accepted ≡ length post.accepted
  pub taken : counts.taken ≡ length (of from receiver.inbox.taken)
