use Rattle.std.proofs.Common.{◌≡◌, ◌++◌, take}
use Rattle.rt_agg.proofs.sharing.add_items.Given as goal

abbrev pub invariant-loop-item : goal.invariant-loop-item
invariant-loop-item l = l.all ≡ l.initial.all ++ take l.item-index l.items
