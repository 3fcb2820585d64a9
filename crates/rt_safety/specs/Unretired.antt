-- A cluster in which nothing is retired.
use Rattle.std.specs.Prelude.{◌≡◌, ℕ, None}
use Rattle.rt_lists.specs.Members.{Has}
use Rattle.rt_model.specs.declared.node.Node.TheVariants as node
use Rattle.rt_model.specs.declared.node.Seen.{Seen}
use Rattle.rt_state.specs.Places.{AreAt}
use Rattle.rt_nodes.specs.declared.controller_node.ControllerNode.{ControllerNode}
use Rattle.rt_state.specs.declared.state.State.{State}
use Rattle.rt_nodes.specs.declared.upkeep.Upkeep.{Upkeep}

-- no retirement is under way for a partition
abbrev pub KeepsAll : ℕ → Upkeep → Type 0
KeepsAll p u = u.retirement ≡ None

abbrev pub RetiresNone : ℕ → ControllerNode → Type 0
RetiresNone c n = AreAt KeepsAll n.upkeep

-- without a retention no retirement is under way, and no node was ever deleted
pub record IsUnretired (w : State) : Type 0 where
  pub retention : w.setup.retention ≡ None
  pub controllers : AreAt RetiresNone w.controllers
  pub all : (v : Seen) → Has w.store.writes v → v.node ≡ node.Gone → ⊥
