use Rattle.rt_rebalance.proofs.Turns.{slots_in_turn}
use Rattle.rt_rebalance.proofs.laws.the_lowest_leave_and_come_first.Goals as goal

pub returns : goal.returns
returns c = slots_in_turn
