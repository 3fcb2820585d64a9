use Rattle.std.proofs.Common.{◌≡◌, take}
use Rattle.rt_rebalance.specs.Planned.{entries_at}
use Rattle.rt_rebalance.proofs.planning.state_at.Given as goal

abbrev pub invariant-loop-slot : goal.invariant-loop-slot
invariant-loop-slot l = l.entries ≡ entries_at l.steps (take l.slot-index l.slots)
