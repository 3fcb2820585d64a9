use Rattle.std.proofs.Common.{◌≡◌, ◌≤◌, ℕ, Some, length, map, slice_get}
use Rattle.rt_link.specs.Ends.{Taking}
use Rattle.rt_lists.specs.Members.{IsFront}
use Rattle.rt_live_links.specs.Gathered.{TookRightly, gathering}
use Rattle.rt_live_links.specs.Rows.{onto}
use Rattle.rt_live_links.proofs.gathering.gather_row.Given as goal

-- what is left of the row is still to be gathered, the last post first
abbrev pub invariant-loop-post : goal.invariant-loop-post
invariant-loop-post l = record {
  lines : IsFront (map (λ post. post.line) l.row.items) (map (λ inbox. inbox.line) l.inboxes);
  inboxes : onto gathering l.inboxes l.row.items ≡ onto gathering l.initial.inboxes l.initial.row.items;
  rightly : (place : ℕ) (inbox : Taking) → length l.row.items ≤ place → slice_get l.inboxes place ≡ Some inbox
      → TookRightly inbox;
}

abbrev pub decreases-loop-post : goal.decreases-loop-post
decreases-loop-post l = length l.row.items
