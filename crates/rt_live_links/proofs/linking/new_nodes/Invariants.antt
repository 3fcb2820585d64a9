use Rattle.std.proofs.Common.{◌≡◌, All, length, map}
use Rattle.rt_live_links.specs.Linked.{IsBare, row_to}
use Rattle.rt_live_links.proofs.linking.new_nodes.Given as goal

abbrev pub invariant-loop-number : goal.invariant-loop-number
invariant-loop-number l = record {
  count : length l.nodes.items ≡ l._number;
  nodes : All (IsBare l.capacity l.senders) l.nodes.items;
  rows : l.rows.items ≡ map (λ node. row_to l.capacity l.senders node.inbox) l.nodes.items;
}
