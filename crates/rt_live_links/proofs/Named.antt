-- Ended nodes that know the links of the others by their names.
use Rattle.std.proofs.Common.{◌≡◌, ℕ, List, length, sym, ◌∙◌, Some, slice_get}
use Rattle.atomic_table.specs.Seated.{TableId}
use Rattle.rt_live_links.specs.Gathered.{AreEnds, IsNamedEnd}
use Rattle.rt_live_links.specs.declared.node_links.NodeLinks.{NodeLinks}

pub named_ends : (line : ℕ → TableId) (others nodes : List NodeLinks)
    → ((place : ℕ) (other : NodeLinks) → slice_get others place ≡ Some other → other.inbox.line ≡ line place)
    → ((number : ℕ) (node : NodeLinks) → slice_get nodes number ≡ Some node
    → IsNamedEnd line (length others) number node) → AreEnds others nodes
named_ends line others nodes lines ends =
    record {
      each = λ number node at.
          let end = ends number node at in
          record {
            made = end.made;
            gathered = end.gathered;
            posts = end.posts;
            to = λ place post other there here.
                let named = end.named place post there in
                (named.0 ∙ sym (lines place other here), named.1);
          };
    }
