use Rattle.std.proofs.Common.{arith}
use Rattle.rt_rebalance.proofs.Ends.{short_refused, short_slots}
use Rattle.rt_rebalance.proofs.segments.next_pair.Goals as goal

pub returns-in-empty-goals-clause-unrefused : goal.returns-in-empty-goals-clause-unrefused
returns-in-empty-goals-clause-unrefused c = λ keep. short_refused keep c.args.later.now c.args.goals.now (omega (arith, c.in-empty-goals.len_below))

pub returns-in-empty-goals-clause-slotless : goal.returns-in-empty-goals-clause-slotless
returns-in-empty-goals-clause-slotless c = λ keep. short_slots keep c.args.later.now c.args.goals.now (omega (arith, c.in-empty-goals.len_below))
