-- The replicas at rest of a server.
use Rattle.std.proofs.Common.{◌≡◌, ◌∙◌, List, [], ◌∷◌, Some, None, slice_get, refl, ap, sym}
use Rattle.std.specs.List.{prefix_len}
use Rattle.rt_base.specs.declared.numbers.Instance.{Instance}
use Rattle.rt_nodes.specs.Reading.{rests_up}
use Rattle.rt_nodes.specs.declared.server_node.ServerNode.{ServerNode}
use Rattle.rt_server.specs.Table.{Segment}
use Rattle.rt_state.specs.declared.state.State.{State}
use Rattle.rt_world.specs.Reading.{at_rest}

none_rests : (ss : List Segment) → prefix_len (rests_up None) ss ≡ 0
none_rests [] = refl
none_rests (s ∷ ss) = refl

module _ (w : State) (i : Instance) (ss : List Segment) where
  pub rests_there : (n : ServerNode) → slice_get w.servers i.0 ≡ Some n → prefix_len (rests_up (Some n)) ss ≡ prefix_len (at_rest w i) ss
  rests_there n e = sym (ap (λ o. prefix_len (rests_up o) ss) e)

  pub rests_nowhere : slice_get w.servers i.0 ≡ None → 0 ≡ prefix_len (at_rest w i) ss
  rests_nowhere e = sym (ap (λ o. prefix_len (rests_up o) ss) e ∙ none_rests ss)
