use Rattle.std.proofs.Common.{◌≡◌, ◌++◌, length}
use Rattle.std.specs.Vec.Iter.{into_iter_items, into_iter_len}
use Rattle.rt_live_links.specs.Rows.{inboxes_of, posts_of}
use Rattle.rt_live_links.proofs.gathering.apart.Given as goal

abbrev pub invariant-loop-node : goal.invariant-loop-node
invariant-loop-node l = record {
  left : into_iter_len l.node-iterator ≡ length (into_iter_items l.node-iterator);
  inboxes : l.inboxes.items ++ inboxes_of (into_iter_items l.node-iterator) ≡ inboxes_of l.fn.nodes.items;
  rows : l.rows.items ++ posts_of (into_iter_items l.node-iterator) ≡ posts_of l.fn.nodes.items;
}
