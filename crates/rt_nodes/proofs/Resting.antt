-- The replicas at rest of a server that is up, and of one that is down.
use Rattle.std.proofs.Common.{◌≡◌, ◌∙◌, ℕ, Bool, true, false, List, [], ◌∷◌, Some, None, if◌then◌else◌, refl, ap, sym}
use Rattle.std.specs.List.{prefix_len}
use Rattle.rt_nodes.specs.Reading.{rests_by, rests_up}
use Rattle.rt_nodes.specs.declared.server_node.ServerNode.{ServerNode}
use Rattle.rt_server.specs.Resting.{rests_at}
use Rattle.rt_server.specs.Table.{Segment, replica_of}

none_rests : (ss : List Segment) → prefix_len (λ s. rests_by None) ss ≡ 0
none_rests [] = refl
none_rests (s ∷ ss) = refl

module _ (n : ServerNode) (ss : List Segment) where
  abbrev by_up : Bool → ℕ
  by_up up = prefix_len (λ s. rests_by (if up then replica_of n.server.table s.0 s.1 else None)) ss

  pub up_rests : n.up ≡ true → prefix_len (rests_at n.server.table) ss ≡ prefix_len (rests_up (Some n)) ss
  up_rests e = sym (ap by_up e)

  pub down_rests : n.up ≡ false → 0 ≡ prefix_len (rests_up (Some n)) ss
  down_rests e = sym (ap by_up e ∙ none_rests ss)
