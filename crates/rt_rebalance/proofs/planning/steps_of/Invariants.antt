use Rattle.std.proofs.Common.{◌≡◌, max, drop}
use Rattle.rt_rebalance.specs.Planned.{steps_of}
use Rattle.rt_rebalance.proofs.planning.steps_of.Given as goal

abbrev pub invariant-loop-slot : goal.invariant-loop-slot
invariant-loop-slot l = max l.last (steps_of (drop l.slot-index l.slots)) ≡ steps_of l.slots
