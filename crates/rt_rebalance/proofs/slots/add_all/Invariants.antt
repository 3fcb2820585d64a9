use Rattle.std.proofs.Common.{◌≡◌, ◌++◌, take}
use Rattle.rt_rebalance.specs.Planned.{stays_in}
use Rattle.rt_rebalance.proofs.slots.add_all.Given as goal

abbrev pub invariant-loop-entry : goal.invariant-loop-entry
invariant-loop-entry l = l.slots.items ≡ l.initial.slots.items ++ stays_in (take l.entry-index l.now)
