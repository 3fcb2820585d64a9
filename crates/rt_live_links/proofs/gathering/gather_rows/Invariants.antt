use Rattle.std.proofs.Common.{◌≡◌, ◌<◌, length, map}
use Rattle.std.specs.List.{All}
use Rattle.std.specs.Vec.Iter.{into_iter_items, into_iter_len}
use Rattle.rt_live_links.specs.Gathered.{TookRightly, gathering}
use Rattle.rt_live_links.specs.Rows.{onto_all}
use Rattle.rt_live_links.proofs.gathering.gather_rows.Given as goal

-- the rows that are left are still to be gathered
abbrev pub invariant-loop-row : goal.invariant-loop-row
invariant-loop-row l = record {
  left : into_iter_len l.row-iterator ≡ length (into_iter_items l.row-iterator);
  lines : All (λ row. map (λ post. post.line) row ≡ map (λ inbox. inbox.line) l.inboxes.items)
      (into_iter_items l.row-iterator);
  inboxes : onto_all gathering l.inboxes.items (into_iter_items l.row-iterator)
      ≡ onto_all gathering l.fn.inboxes.items l.fn.rows.items;
  rightly : length (into_iter_items l.row-iterator) < length l.fn.rows.items → All TookRightly l.inboxes.items;
}
