use Rattle.std.proofs.Common.{◌≡◌, length}
use Rattle.std.specs.Vec.Iter.{into_iter_items, into_iter_len}
use Rattle.rt_live_join.specs.Feeding.{AreOfOneHistory, WereGiven}
use Rattle.rt_live_join.proofs.feeding.tell_all.Given as goal

-- where those that are left were given all were
abbrev pub invariant-loop-feed : goal.invariant-loop-feed
invariant-loop-feed g l = record {
  left : into_iter_len l.feed-iterator ≡ length (into_iter_items l.feed-iterator);
  pieces : into_iter_len l.pieces ≡ length (into_iter_items l.pieces);
  one : AreOfOneHistory (into_iter_items l.pieces) (into_iter_items l.feed-iterator);
  given :
      WereGiven (into_iter_items l.pieces) (into_iter_items l.feed-iterator)
      → WereGiven l.fn.pieces.items l.fn.feeds.items;
}
