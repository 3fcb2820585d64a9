use Rattle.std.proofs.Common.{◌≡◌, ◌+◌, length}
use Rattle.std.specs.Vec.Iter.{into_iter_items, into_iter_len}
use Rattle.rt_live_join.specs.Left.{IsControllerLeft}
use Rattle.rt_live_join.specs.Parted.{AreLeft, controller_had}
use Rattle.rt_live_join.proofs.controllers.ended_controllers.Given as goal

abbrev pub invariant-loop-seat : goal.invariant-loop-seat
invariant-loop-seat g l = record {
  left : into_iter_len l.seat-iterator ≡ length (into_iter_items l.seat-iterator);
  count : length l.parts.links.items + length (into_iter_items l.seat-iterator) ≡ length l.fn.seats.items;
  each :
      AreLeft (IsControllerLeft g.K.Cluster.names) controller_had (length l.parts.links.items) l.parts;
}
