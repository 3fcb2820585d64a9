-- What an answer and a view miss in a world.
use Rattle.std.specs.Prelude.{◌≡◌, ◌⊎◌, ℕ, false, List, Option, Some, Err, slice_get}
use Rattle.rt_assign.specs.Placement.{replicas_of}
use Rattle.rt_base.specs.declared.numbers.Instance.{Instance}
use Rattle.rt_base.specs.declared.numbers.Offset.{Offset}
use Rattle.rt_base.specs.declared.numbers.Partition.{Partition}
use Rattle.rt_base.specs.declared.numbers.Sequence.{Sequence}
use Rattle.rt_entry.specs.declared.refused.ServeRefused.TheVariants.{NotServed}
use Rattle.rt_lists.specs.Members.{Has}
use Rattle.rt_model.specs.Metadata.{metadata_of}
use Rattle.rt_model.specs.Plan.{plan_of}
use Rattle.rt_model.specs.declared.answer.Answer.{Answer}
use Rattle.rt_model.specs.declared.piece.Piece.{Piece}
use Rattle.rt_nodes.specs.declared.server_node.ServerNode.{ServerNode}
use Rattle.rt_report.specs.BrokerTexts.{answer_line}
use Rattle.rt_server.specs.Serving.{serve}
use Rattle.rt_state.specs.declared.state.State.{State}

-- a server is down, or doesn't serve the piece
pub record RefusesIn (w : State) (i : Instance) (piece : Piece) : Type 0 where
  pub node : ServerNode
  pub there : slice_get w.servers i.0 ≡ Some node
  pub why : (node.up ≡ false) ⊎ ((reached : Option Offset) × (serve node.server.table piece ≡ Err (NotServed reached)))

-- the partition's plan has the piece, and each of the partition's servers refuses it
pub record IsMissedIn (w : State) (p : Partition) (s : Sequence) : Type 0 where
  pub piece : Piece
  pub planned : Has (plan_of p (metadata_of w.store.writes p)) piece
  pub sequence : piece.sequence ≡ s
  pub refused : (i : Instance) → Has (replicas_of p w.setup.table.replication w.setup.servers) i → RefusesIn w i piece

-- a text is the line of an answer that misses no piece but those
pub record MissesSo (w : State) (text : List ℕ) : Type 0 where
  pub answer : Answer
  pub told : text ≡ answer_line answer
  pub missed : (p : Partition) (s : Sequence) → Has answer.missing (p, Some s) → IsMissedIn w p s
