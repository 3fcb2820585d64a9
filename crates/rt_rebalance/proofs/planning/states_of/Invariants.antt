use Rattle.std.proofs.Common.{◌≡◌, map}
use Rattle.std.specs.List.{range_with_len}
use Rattle.rt_rebalance.specs.Planned.{state_at}
use Rattle.rt_rebalance.proofs.planning.states_of.Given as goal

abbrev pub invariant-loop-steps : goal.invariant-loop-steps
invariant-loop-steps l = l.states ≡ map (state_at l.slots) (range_with_len 0 l.steps)
