-- A world in which no server has anything to do, and what such a one has.
use Rattle.std.specs.Prelude.{◌≡◌, ◌⊎◌, ℕ, true, Some, None, slice_get}
use Rattle.rt_base.specs.declared.numbers.Instance.{Instance}
use Rattle.rt_base.specs.declared.numbers.Partition.{Partition}
use Rattle.rt_base.specs.declared.numbers.Sequence.{Sequence}
use Rattle.rt_lists.specs.Members.{Has}
use Rattle.rt_model.specs.Metadata.{metadata_of}
use Rattle.rt_model.specs.Plan.{piece_of}
use Rattle.rt_model.specs.declared.commit.Commit.{Commit}
use Rattle.rt_model.specs.declared.node.Listed.{Listed}
use Rattle.rt_model.specs.declared.status.Status.TheVariants.{Done}
use Rattle.rt_nodes.specs.declared.server_node.ServerNode.{ServerNode}
use Rattle.rt_past.specs.Files.{range_to}
use Rattle.rt_state.specs.IsSafe.{past_of}
use Rattle.rt_state.specs.Places.{AreAt}
use Rattle.rt_state.specs.declared.state.State.{State}
use Rattle.rt_stream.specs.Log.{end_of, messages_of}
use Rattle.rt_heal.specs.Resting.{HasDropped, HasTakenAll, RestsOver, ServesOver}

abbrev pub IsUp : ℕ → ServerNode → Type 0
IsUp i n = n.up ≡ true

-- all servers are up
abbrev pub AreUp : State → Type 0
AreUp w = AreAt IsUp w.servers

-- a server that is up and rests
pub record RestsIn (w : State) (i : ℕ) (n : ServerNode) : Type 0 where
  pub up : n.up ≡ true
  pub rests : RestsOver (past_of w) w.moment n.server

abbrev pub IsAtRest : State → Type 0
IsAtRest w = AreAt (RestsIn w) w.servers

-- a server serves a committed segment from its start to its end
pub record IsServedAt (w : State) (p : Partition) (q : Sequence) (i : Instance) : Type 0 where
  pub node : ServerNode
  pub there : slice_get w.servers i.0 ≡ Some node
  pub listed : Listed
  pub has : Has (metadata_of w.store.writes p) listed
  pub is : listed.sequence ≡ q
  pub commit : Commit
  pub status : listed.seen.meta.status ≡ Done commit
  pub serves :
      ServesOver w.setup (past_of w) node.server.table (piece_of p listed (Some commit.end)) (range_to listed.seen.meta.start commit.end)

-- a server has taken every message of a segment in progress, and serves them; or its replica has dropped its rows
pub record IsConsumedAt (w : State) (p : Partition) (l : Listed) (i : Instance) : Type 0 where
  pub node : ServerNode
  pub there : slice_get w.servers i.0 ≡ Some node
  pub takes :
      (HasTakenAll (past_of w) node.server.table p l.sequence
      × ServesOver w.setup (past_of w) node.server.table (piece_of p l None) (range_to l.seen.meta.start (end_of (messages_of w.log p))))
      ⊎ HasDropped node.server.table p l.sequence
