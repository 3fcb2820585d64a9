-- A cluster that was started anew: every server is up without a replica, and no controller has a machine.
use Rattle.std.specs.Prelude.{◌≡◌, ℕ, true, [], Some, slice_get}
use Rattle.rt_nodes.specs.declared.controller_node.ControllerNode.{ControllerNode}
use Rattle.rt_nodes.specs.declared.server_node.ServerNode.{ServerNode}
use Rattle.rt_state.specs.declared.state.State.{State}

-- a server that is up and has no segment
pub record IsFreshServer (n : ServerNode) : Type 0 where
  pub up : n.up ≡ true
  pub empty : n.server.table.entries ≡ []

-- so is each server, and each controller has no machine
pub record IsFresh (w : State) : Type 0 where
  pub servers : (i : ℕ) (n : ServerNode) → slice_get w.servers i ≡ Some n → IsFreshServer n
  pub controllers : (c : ℕ) (n : ControllerNode) → slice_get w.controllers c ≡ Some n → n.controller.machines ≡ []
