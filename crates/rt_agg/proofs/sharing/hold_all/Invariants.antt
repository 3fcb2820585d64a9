use Rattle.std.proofs.Common.{map}
use Rattle.rt_agg.specs.ResultHolder.{item_of}
use Rattle.rt_agg.specs.Sharing.{AreHeld}
use Rattle.rt_agg.proofs.sharing.hold_all.Given as goal

abbrev pub invariant-loop-i : goal.invariant-loop-i
invariant-loop-i l = AreHeld l.items l.places l.i (map item_of l.held.items)
