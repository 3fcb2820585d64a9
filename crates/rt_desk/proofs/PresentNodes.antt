-- The present nodes of the partitions, one partition after the other.
use Rattle.std.proofs.Common.{◌≡◌, ℕ, ◌+◌, suc, List, [], ◌∷◌, ◌++◌, ap, sym, ◌∙◌, append_assoc}
use Rattle.rt_desk.specs.Forcing.{nodes_from}
use Rattle.rt_model.specs.Metadata.{metadata_of}
use Rattle.rt_model.specs.declared.node.Listed.{Listed}
use Rattle.rt_state.specs.declared.state.State.{State}

-- those of a partition more
pub nodes_more : (w : State) (at left next : ℕ) (all nodes longer : List (List Listed)) (more : List Listed) → all ≡ nodes ++ nodes_from w at left → left ≡ suc next
    → longer ≡ nodes ++ more ∷ [] → more ≡ metadata_of w.store.writes (record { 0 = at }) → all ≡ longer ++ nodes_from w (at + 1) next
nodes_more w at left next all nodes longer more so e pushed is =
    so ∙ ap (λ n. nodes ++ nodes_from w at n) e ∙ ap (λ m. nodes ++ (m ∷ nodes_from w (at + 1) next)) (sym is) ∙ sym (append_assoc nodes (more ∷ []) (nodes_from w (at + 1) next))
    ∙ ap (λ ns. ns ++ nodes_from w (at + 1) next) (sym pushed)
