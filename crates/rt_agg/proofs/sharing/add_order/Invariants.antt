use Rattle.std.proofs.Common.{◌≡◌, ◌++◌, take}
use Rattle.rt_agg.specs.Accumulators.{ordering_items}
use Rattle.rt_agg.proofs.sharing.add_order.Given as goal

abbrev pub invariant-loop-key : goal.invariant-loop-key
invariant-loop-key l = l.all ≡ l.initial.all ++ ordering_items (take l.key-index l.order)
