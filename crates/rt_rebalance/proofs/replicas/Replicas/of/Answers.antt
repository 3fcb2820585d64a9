use Rattle.std.proofs.Common.{arith}
use Rattle.std.proofs.lemmas.Grind.{common_steps}
use Rattle.rt_rebalance.proofs.Gathered.{one_more}
use Rattle.rt_rebalance.proofs.replicas.Replicas.of.Goals as goal

pub loop-entry-preserved : goal.loop-entry-preserved
loop-entry-preserved c =
    one_more c.loop-entry.places.keys c.insert.new.self.keys c.args.entries.now c.loop-entry.entry-index _ (omega (arith, c.loop-entry-test.true))
    c.in_ok-insert.ensures.updates.0 c.loop-entry.invariant

pub returns : goal.returns
returns c = λ p s i. grind (arith, common_steps, c.loop-entry.invariant p s i)
