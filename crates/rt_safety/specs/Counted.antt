-- What the counts of a run count.
use Rattle.std.specs.Prelude.{◌≡◌, ◌+◌, ℕ, List, [], ◌∷◌, length}
use Rattle.rt_model.specs.declared.node.Node.{Node}
use Rattle.rt_model.specs.declared.node.Node.TheVariants as node
use Rattle.rt_model.specs.declared.node.Seen.{Seen}
use Rattle.rt_model.specs.declared.request.RequestKind.{RequestKind}
use Rattle.rt_model.specs.declared.request.RequestKind.TheVariants as kind
use Rattle.rt_model.specs.declared.sent.Sent.{Sent}
use Rattle.rt_model.specs.declared.sent.Sent.TheVariants as sent
use Rattle.rt_safety.specs.Runs.{Turn}
use Rattle.rt_state.specs.declared.state.State.{State}

-- the bytes that a request uploads
abbrev pub bytes_of : RequestKind → ℕ
bytes_of (kind.Upload path bytes) = length bytes
bytes_of other = 0

abbrev pub upload_of : Sent → ℕ
upload_of (sent.Request q) = bytes_of q.kind
upload_of (sent.Reply r) = 0

-- of all messages together
abbrev pub uploads_in : List Sent → ℕ
uploads_in [] = 0
uploads_in (m ∷ ms) = upload_of m + uploads_in ms

-- the entries of an ideal state
abbrev pub entries_of : Node → ℕ
entries_of (node.Ideal state) = length state.entries
entries_of other = 0

-- of all writes together
abbrev pub entries_in : List Seen → ℕ
entries_in [] = 0
entries_in (v ∷ vs) = entries_of v.node + entries_in vs

-- a world behind some turns: each of them counts, and so do all bytes that were uploaded and all entries that were written
pub record IsCounted (w : State) (turns : List Turn) : Type 0 where
  pub events : w.counts.events ≡ length turns
  pub uploads : w.counts.uploads ≡ uploads_in w.sent
  pub stored : w.counts.stored ≡ entries_in w.store.writes
