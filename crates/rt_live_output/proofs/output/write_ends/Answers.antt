use Rattle.std.proofs.Common.{arith, refl}
use Rattle.rt_live_output.specs.Texts.{numbered_end}
use Rattle.rt_live_output.proofs.Told.{told_more}
use Rattle.rt_live_output.proofs.output.write_ends.Goals as goal

pub loop-partition-preserved : goal.loop-partition-preserved
loop-partition-preserved c =
    told_more numbered_end c.args.ends.now c.loop-partition.partition _ _ _ _ _ (omega arith) refl c.loop-partition.invariant c.in_ok-write_end.ensures
