use Rattle.std.proofs.Common.{◌≡◌, map, take}
use Rattle.rt_rebalance.specs.Target.{turned_online}
use Rattle.rt_rebalance.proofs.targets.online.Given as goal

abbrev pub invariant-loop-entry : goal.invariant-loop-entry
invariant-loop-entry l = l.online ≡ map turned_online (take l.entry-index l.entries)
