-- The posts of a node, and what one more message makes of them.
use Rattle.std.specs.Prelude.{◌≡◌, ℕ, ◌+◌, ◌%◌, ◌≤◌, ◌==◌, Bool, false, List, ◌++◌, replicate, slice_get, slice_set, Option, Some, None, if◌then◌else◌}
use Rattle.rt_link.specs.Ends.{Sending}
use Rattle.rt_link.specs.declared.envelope.Envelope.{Envelope}
use Rattle.rt_lists.specs.Members.{Has}
use Rattle.rt_live_names.specs.Names.{Names}

pub record PostsNow : Type 0 where
  pub posts : List Sending
  -- how many messages the node made, for all receivers together
  pub made : ℕ
  pub drop : ℕ
  pub repeat : ℕ

-- a count is of this number or a multiple of it; 0 is the number of none
abbrev pub is_multiple : ℕ → ℕ → Bool
is_multiple number count = if number == 0 then false else ((count % number) == 0)

-- how often the message of this number is posted
abbrev pub times : ℕ → ℕ → ℕ → ℕ
times drop repeat number = if is_multiple drop number then 0 else (if is_multiple repeat number then 2 else 1)

-- a post that accepted an envelope so often
abbrev pub accepting : Sending → ℕ → Envelope → Sending
accepting post n envelope = record post { accepted = post.accepted ++ replicate n envelope }

-- a post accepted an envelope at most so often
abbrev pub Accepts : Sending → Sending → ℕ → Envelope → Type 0
Accepts old new most envelope = (n : ℕ) × (n ≤ most) × (new ≡ accepting old n envelope)

-- the post of this receiver accepted the envelope at most so often, and no other post did; where there is no such receiver
-- none did
abbrev pub PostedAt : List Sending → List Sending → ℕ → ℕ → Envelope → Option Sending → Type 0
PostedAt old new to most envelope (Some post) = (after : Sending) × Accepts post after most envelope × (new ≡ slice_set old to after)
PostedAt old new to most envelope None = new ≡ old

-- one more message was made: it is posted as often as its number says, unless the queue is full or memory runs out
pub record Sends (old new : PostsNow) (to : ℕ) (envelope : Envelope) : Type 0 where
  pub made : new.made ≡ old.made + 1
  pub chaos : (new.drop ≡ old.drop) × (new.repeat ≡ old.repeat)
  pub posted : PostedAt old.posts new.posts to (times old.drop old.repeat (old.made + 1)) envelope (slice_get old.posts to)

-- the posts of a node: each is of the link of its receiver, with the node's number, and what it accepted is among what the node
-- sent
pub record ArePosts (n : Names) (from : ℕ) (line : ℕ → ℕ) (sent : List Envelope) (posts : List Sending) : Type 0 where
  pub named : (k : ℕ) (p : Sending) → slice_get posts k ≡ Some p → (p.line ≡ n.lines (line k)) × (p.from ≡ from)
  pub accepted : (k : ℕ) (p : Sending) (e : Envelope) → slice_get posts k ≡ Some p → Has p.accepted e → Has sent e
