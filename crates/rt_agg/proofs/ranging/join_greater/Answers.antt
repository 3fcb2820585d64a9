use Rattle.std.proofs.Common.{None, arith}
use Rattle.rt_agg.specs.Accumulators.{greatest_with}
use Rattle.rt_agg.proofs.Slots.{join_none, join_past}
use Rattle.rt_agg.proofs.ranging.join_greater.Goals as goal
use Rattle.rt_agg.proofs.ranging.join_greater.Goals.{else-group-len-via-then-group-len+else-from-len, else-group-len-via-else-group-len}

pub returns-else-group-len : goal.returns-else-group-len
returns-else-group-len c = elim c.else-group-len.branch [
  | else-group-len-via-then-group-len+else-from-len w ↦ join_none greatest_with None c.args.group c.args.scalars.now c.args.from c.args.others.now (omega arith)
  | else-group-len-via-else-group-len w ↦ join_past greatest_with None c.args.group c.args.scalars.now c.args.from c.args.others.now (omega arith)
]
