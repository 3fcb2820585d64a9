use Rattle.std.proofs.Common.{◌≡◌, ◌≤◌, length}
use Rattle.rt_live_links.specs.Rows.{inboxes_of, onto, posts_of, with_last}
use Rattle.rt_live_links.proofs.dealing.deal.Given as goal

-- what is left of the row is still to be dealt out, the last post first
abbrev pub invariant-loop-post : goal.invariant-loop-post
invariant-loop-post l = record {
  fits : length l.row.items ≤ length l.nodes;
  inboxes : inboxes_of l.nodes ≡ inboxes_of l.initial.nodes;
  posts : onto with_last (posts_of l.nodes) l.row.items ≡ onto with_last (posts_of l.initial.nodes) l.initial.row.items;
}

abbrev pub decreases-loop-post : goal.decreases-loop-post
decreases-loop-post l = length l.row.items
