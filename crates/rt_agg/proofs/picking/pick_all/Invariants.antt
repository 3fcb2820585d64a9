use Rattle.std.proofs.Common.{map}
use Rattle.std.specs.List.{AllByRecursion}
use Rattle.rt_agg.specs.Picking.{IsPicked}
use Rattle.rt_agg.specs.ResultHolder.{item_of}
use Rattle.rt_agg.specs.Sharing.{AreHeld, spread}
use Rattle.rt_agg.proofs.picking.pick_all.Given as goal

abbrev pub invariant-loop-i : goal.invariant-loop-i
invariant-loop-i l = record {
  held : AreHeld l.items l.places l.i (map item_of l.held);
  picked : AllByRecursion (IsPicked (spread l.others_places l.others) l.marks) l.held;
}
