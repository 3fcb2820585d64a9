-- The inboxes and posts of all nodes as they are made, when nothing was posted yet.
use Rattle.std.specs.Prelude.{◌≡◌, ℕ, List, [], ◌++◌, length, map, Some, slice_get}
use Rattle.std.specs.List.{range_with_len}
use Rattle.atomic_table.specs.Seated.{TableId}
use Rattle.rt_link.specs.Ends.{Sending, Taking, sending, taking}
use Rattle.rt_live_links.specs.declared.all_links.Links.{Links}
use Rattle.rt_live_links.specs.declared.node_links.NodeLinks.{NodeLinks}

-- the node of this number has an inbox for all the others, and in their order a post to the inbox of each of them
pub record IsLinked (capacity : ℕ) (others : List NodeLinks) (number : ℕ) (node : NodeLinks) : Type 0 where
  pub inbox : node.inbox ≡ taking node.inbox.line capacity (length others) [] []
  pub posts : node.posts.items ≡ map (λ other. sending other.inbox.line capacity number []) others

-- so are all nodes of one kind
pub record AreLinked (capacity : ℕ) (others nodes : List NodeLinks) : Type 0 where
  pub each : (number : ℕ) (node : NodeLinks) → slice_get nodes number ≡ Some node → IsLinked capacity others number node

-- the links of all inboxes: those of the servers by their numbers, and behind them those of the controllers
abbrev pub lines_of : Links → List TableId
lines_of links =
    map (λ node. node.inbox.line) (links.servers.items ++ links.controllers.items)

-- a post that accepted nothing yet, of the link at this place of all links and with its sender's number
pub record IsNewPost (lines : List TableId) (capacity place number : ℕ) (post : Sending) : Type 0 where
  pub stands : slice_get lines place ≡ Some post.line
  pub is : post ≡ sending post.line capacity number []

-- ---- a node that has no post yet, and the posts of its senders

pub record IsBare (capacity senders : ℕ) (node : NodeLinks) : Type 0 where
  pub inbox : node.inbox ≡ taking node.inbox.line capacity senders [] []
  pub posts : node.posts.items ≡ []

abbrev pub row_to : ℕ → ℕ → Taking → List Sending
row_to capacity senders inbox = map (λ number. sending inbox.line capacity number []) (range_with_len 0 senders)
