-- What stands when all nodes have ended, and each post went to the inbox of its receiver.
use Rattle.std.specs.Prelude.{◌≡◌, ℕ, List, [], ◌∷◌, ◌++◌, length, map, Some, slice_get}
use Rattle.atomic_table.specs.Seated.{TableId}
use Rattle.rt_link.specs.Delivery.{account, of, TookInOrder, TookOfSenders}
use Rattle.rt_link.specs.Ends.{Sending, Taking}
use Rattle.rt_link.specs.declared.envelope.Envelope.{Envelope}
use Rattle.rt_link.specs.declared.rule.Account.{Account}
use Rattle.rt_link.specs.declared.rule.Sent.{Sent}
use Rattle.rt_lists.specs.Members.{Has, IsFront}
use Rattle.rt_live_links.specs.Rows.{column, posts_of}
use Rattle.rt_live_links.specs.declared.node_links.NodeLinks.{NodeLinks}

-- ---- before

-- the ended node of this number has an inbox that gathered no sender yet, and a post of its own to each other's inbox
pub record IsEnd (others : List NodeLinks) (number : ℕ) (node : NodeLinks) : Type 0 where
  pub made : node.inbox.made ≡ length others
  pub gathered : node.inbox.gathered ≡ []
  pub posts : length node.posts.items ≡ length others
  pub to : (place : ℕ) (post : Sending) (other : NodeLinks) → slice_get node.posts.items place ≡ Some post
      → slice_get others place ≡ Some other → (post.line ≡ other.inbox.line) × (post.from ≡ number)

pub record AreEnds (others nodes : List NodeLinks) : Type 0 where
  pub each : (number : ℕ) (node : NodeLinks) → slice_get nodes number ≡ Some node → IsEnd others number node

-- the same of a node that knows the links of the others by their names
pub record IsNamedEnd (line : ℕ → TableId) (others number : ℕ) (node : NodeLinks) : Type 0 where
  pub made : node.inbox.made ≡ others
  pub gathered : node.inbox.gathered ≡ []
  pub posts : length node.posts.items ≡ others
  pub named : (place : ℕ) (post : Sending) → slice_get node.posts.items place ≡ Some post
      → (post.line ≡ line place) × (post.from ≡ number)

-- ---- afterwards

abbrev pub envelopes : List Sent → List Envelope
envelopes taken = map (λ sent. sent.envelope) taken

-- the post of each sender to the receiver of this number, in the order of the senders
abbrev pub posts_to : ℕ → List NodeLinks → List Sending
posts_to receiver senders = column receiver (posts_of senders)

abbrev pub account_of : Sending → Account
account_of post = account post.from post.accepted

-- some sender's post to this receiver accepted the envelope
pub record WasAccepted (senders : List NodeLinks) (receiver : ℕ) (envelope : Envelope) : Type 0 where
  pub number : ℕ
  pub sender : NodeLinks
  pub post : Sending
  pub stands : slice_get senders number ≡ Some sender
  pub posts : slice_get sender.posts.items receiver ≡ Some post
  pub accepted : Has post.accepted envelope

-- the inbox of the receiver of this number has the account of each sender; of each it took a beginning of what the
-- sender's post accepted, and it took nothing else
pub record IsGathered (senders : List NodeLinks) (receiver : ℕ) (old new : Taking) : Type 0 where
  pub accounts : new ≡ record old { gathered = map account_of (posts_to receiver senders) }
  pub order : TookInOrder new.taken new.gathered
  pub of_senders : TookOfSenders new.made new.taken
  pub fronts : (number : ℕ) (sender : NodeLinks) (post : Sending) → slice_get senders number ≡ Some sender
      → slice_get sender.posts.items receiver ≡ Some post → IsFront (of number new.taken) post.accepted
  pub accepted : (envelope : Envelope) → Has (envelopes new.taken) envelope → WasAccepted senders receiver envelope

-- so are the inboxes of all receivers
pub record AreGathered (senders receivers : List NodeLinks) (inboxes : List Taking) : Type 0 where
  pub count : length inboxes ≡ length receivers
  pub each : (number : ℕ) (receiver : NodeLinks) (inbox : Taking) → slice_get receivers number ≡ Some receiver
      → slice_get inboxes number ≡ Some inbox → IsGathered senders number receiver.inbox inbox

-- ---- one sender after the other

-- an inbox that gathered one sender more
abbrev pub gathering : Taking → Sending → Taking
gathering inbox post = record inbox { gathered = inbox.gathered ++ account_of post ∷ [] }

pub record TookRightly (inbox : Taking) : Type 0 where
  pub order : TookInOrder inbox.taken inbox.gathered
  pub of_senders : TookOfSenders inbox.made inbox.taken
