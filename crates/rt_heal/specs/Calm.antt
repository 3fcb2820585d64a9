-- Servers that have seen the present ideal state, and have nothing to move and no file to get.
use Rattle.std.specs.Prelude.{◌≡◌, ℕ, false, List, Some, slice_get}
use Rattle.rt_base.specs.declared.numbers.Partition.{Partition}
use Rattle.rt_base.specs.declared.numbers.Sequence.{Sequence}
use Rattle.rt_model.specs.Entries.{entries_of}
use Rattle.rt_model.specs.declared.node.Seen.{Seen}
use Rattle.rt_nodes.specs.declared.server_node.ServerNode.{ServerNode}
use Rattle.rt_server.specs.Calls.{targets_of}
use Rattle.rt_server.specs.Table.{entry_of, wants_at}
use Rattle.rt_server.specs.Transition.{transit_due}
use Rattle.rt_state.specs.declared.state.State.{State}

-- no transition is due and no file wanted, and the targets are those of the history's ideal state
pub record IsCalm (h : List Seen) (n : ServerNode) : Type 0 where
  pub seen : n.server.table.targets ≡ targets_of n.server.numbers.instance (entries_of h)
  pub moved : (p : Partition) (q : Sequence) → transit_due n.server.table p q ≡ false
  pub loaded : (p : Partition) (q : Sequence) → wants_at (entry_of n.server.table p q) ≡ false

abbrev pub AreAllCalm : State → Type 0
AreAllCalm w = (i : ℕ) (n : ServerNode) → slice_get w.servers i ≡ Some n → IsCalm w.store.writes n
