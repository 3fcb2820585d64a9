use Rattle.std.proofs.Common.{◌≡◌, length}
use Rattle.std.specs.List.{All}
use Rattle.std.specs.Vec.Iter.{into_iter_items, into_iter_len}
use Rattle.rt_live_links.specs.Rows.{inboxes_of, onto_all, posts_of, with_last}
use Rattle.rt_live_links.proofs.dealing.deal_all.Given as goal

-- the rows that are left are still to be dealt out
abbrev pub invariant-loop-row : goal.invariant-loop-row
invariant-loop-row l = record {
  left : into_iter_len l.row-iterator ≡ length (into_iter_items l.row-iterator);
  count : length l.nodes.items ≡ length l.fn.nodes.items;
  fits : All (λ row. length row ≡ length l.nodes.items) (into_iter_items l.row-iterator);
  inboxes : inboxes_of l.nodes.items ≡ inboxes_of l.fn.nodes.items;
  posts : onto_all with_last (posts_of l.nodes.items) (into_iter_items l.row-iterator)
      ≡ onto_all with_last (posts_of l.fn.nodes.items) l.fn.rows.items;
}
