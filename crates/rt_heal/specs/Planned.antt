-- When the segments of a partition are served, each of them whole.
use Rattle.std.specs.Prelude.{◌≡◌, Some, slice_get}
use Rattle.rt_base.specs.declared.numbers.Instance.{Instance}
use Rattle.rt_base.specs.declared.numbers.Partition.{Partition}
use Rattle.rt_lists.specs.Members.{Has}
use Rattle.rt_model.specs.Entries.{entries_of}
use Rattle.rt_model.specs.Ideal.{mode_of}
use Rattle.rt_model.specs.Metadata.{metadata_of, IsDoneStatus, IsInProgress}
use Rattle.rt_model.specs.declared.ideal_state.Mode.TheVariants as mode
use Rattle.rt_model.specs.declared.node.Listed.{Listed}
use Rattle.rt_model.specs.declared.node.Seen.{Seen}
use Rattle.rt_model.specs.declared.piece.Piece.{Piece}
use Rattle.rt_nodes.specs.declared.server_node.ServerNode.{ServerNode}
use Rattle.rt_past.specs.Files.{range_to}
use Rattle.rt_past.specs.Segments.{IsAssignedTo}
use Rattle.rt_state.specs.IsSafe.{past_of}
use Rattle.rt_state.specs.declared.state.State.{State}
use Rattle.rt_stream.specs.Log.{end_of, messages_of}
use Rattle.std.specs.Prelude.{List, unwrap_or}
use Rattle.rt_heal.specs.Resting.{HasDropped, ServesOver}

-- each committed segment of the partition is ONLINE at some instance
abbrev pub AreOnline : List Seen → Partition → Type 0
AreOnline h p =
    (l : Listed) → Has (metadata_of h p) l → IsDoneStatus l.seen.meta.status
    → (i : Instance) × (mode_of (entries_of h) p l.sequence i ≡ Some mode.Online)

-- no replica of a segment in progress has dropped its rows that is to consume it
abbrev pub NoneDropped : State → Partition → Type 0
NoneDropped w p =
    (l : Listed) (i : Instance) → Has (metadata_of w.store.writes p) l → IsInProgress l.seen.meta.status
    → mode_of (entries_of w.store.writes) p l.sequence i ≡ Some mode.Consuming
    → (n : ServerNode) → slice_get w.servers i.0 ≡ Some n → HasDropped n.server.table p l.sequence → ⊥

-- a server that is assigned to a piece's partition serves the piece from its start to its end, or to the stream's end where it has none
pub record IsGivenWhole (w : State) (piece : Piece) : Type 0 where
  pub instance : Instance
  pub assigned : IsAssignedTo w.setup piece.partition instance
  pub node : ServerNode
  pub there : slice_get w.servers instance.0 ≡ Some node
  pub serves :
      ServesOver w.setup (past_of w) node.server.table piece
      (range_to piece.start (unwrap_or piece.end (end_of (messages_of w.log piece.partition))))
