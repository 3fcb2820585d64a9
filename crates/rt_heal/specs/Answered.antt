-- A query that is asked of a world as it now is, and what its answer names then.
use Rattle.std.specs.Prelude.{◌≡◌, ◌<◌, ◌+◌, ℕ, zero, suc, List, [], ◌∷◌, ◌++◌, Some, length, map, slice_get}
use Rattle.rt_base.specs.declared.numbers.Partition.{Partition}
use Rattle.rt_base.specs.declared.range.Range.{Range}
use Rattle.rt_broker.specs.Asking.{Asking, route_at}
use Rattle.rt_broker.specs.declared.piece_asked.PieceAnswer.{PieceAnswer}
use Rattle.rt_broker.specs.declared.piece_asked.PieceAsked.{PieceAsked}
use Rattle.rt_broker.specs.declared.route.Route.TheVariants.{Planned}
use Rattle.rt_lists.specs.Members.{Has}
use Rattle.rt_model.specs.Metadata.{metadata_of}
use Rattle.rt_model.specs.Aggregate.{aggregate}
use Rattle.rt_model.specs.Plan.{plan_of}
use Rattle.rt_model.specs.RightAnswer.{merged, rows_of}
use Rattle.rt_model.specs.declared.answer.Answer.{Answer}
use Rattle.rt_model.specs.declared.query.Query.{Query}
use Rattle.rt_model.specs.Tiled.{mark_of}
use Rattle.rt_nodes.specs.Queries.{Gives}
use Rattle.rt_nodes.specs.declared.server_node.ServerNode.{ServerNode}
use Rattle.rt_past.specs.Files.{range_to}
use Rattle.rt_state.specs.declared.state.State.{State}
use Rattle.rt_stream.specs.Log.{end_of, messages_of}

-- a partition was routed by its present plan
pub record IsRoutedNow (w : State) (a : Asking) (p : Partition) : Type 0 where
  pub pieces : List PieceAsked
  pub routed : route_at a p ≡ Some (Planned pieces)
  pub plan : map (λ x. x.piece) pieces ≡ plan_of p (metadata_of w.store.writes p)

-- what was noted of a server is what it gives now
pub record IsGivenNow (w : State) (a : Asking) (x : PieceAsked) (y : PieceAnswer) : Type 0 where
  pub node : ServerNode
  pub there : slice_get w.servers y.from.0 ≡ Some node
  pub gives : Gives node x.piece a.query y.got

-- the partitions below a number were routed so, and all that was noted is given so
pub record IsAskedNow (w : State) (a : Asking) (below : ℕ) : Type 0 where
  pub servers : a.servers ≡ w.setup.servers
  pub replication : a.replication ≡ w.setup.table.replication
  pub partitions : length a.routes ≡ w.setup.partitions
  pub routed : (p : Partition) → p.0 < below → IsRoutedNow w a p
  pub given :
      (p : Partition) (xs : List PieceAsked) (x : PieceAsked) (y : PieceAnswer) → route_at a p ≡ Some (Planned xs) → Has xs x → Has x.answers y
      → IsGivenNow w a x y

-- ---- what its answer names

-- the offsets of a partition from its mark up to the stream's end, as a range if there are any
abbrev pub whole_in : State → Partition → List (Partition × Range)
whole_in w p = map (λ r. (p, r)) (merged (range_to (record { 0 = mark_of w.store.writes p }) (end_of (messages_of w.log p)) ∷ []))

-- those of so many partitions from a first one on
abbrev pub whole_from : State → ℕ → ℕ → List (Partition × Range)
whole_from w first zero = []
whole_from w first (suc count) = whole_in w (record { 0 = first }) ++ whole_from w (first + 1) count

-- it misses nothing, names all that, and aggregates the rows of all messages there
pub record IsAnsweredWhole (w : State) (query : Query) (answer : Answer) : Type 0 where
  pub missing : answer.missing ≡ []
  pub ranges : answer.ranges ≡ whole_from w 0 w.setup.partitions
  pub rows : answer.rows ≡ aggregate query (rows_of w.setup.schema w.log (whole_from w 0 w.setup.partitions))
