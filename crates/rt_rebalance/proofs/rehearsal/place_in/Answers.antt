use Rattle.std.proofs.Common.{arith, sym, ◌∙◌}
use Rattle.rt_rebalance.proofs.Ends.{removed}
use Rattle.rt_rebalance.proofs.rehearsal.place_in.Goals as goal

pub returns-then-is_of_instance-clause-there : goal.returns-then-is_of_instance-clause-there
returns-then-is_of_instance-clause-there c =
    removed c.args.partition c.args.sequence c.args.instance c.args.entries.now c.loop-place.place _ (omega (arith, c.loop-place-test.true))
    (sym c.is_of_instance.ensures ∙ c.if-is_of_instance.true) c.loop-place.invariant
