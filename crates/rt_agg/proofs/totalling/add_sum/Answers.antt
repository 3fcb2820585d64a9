use Rattle.std.proofs.Common.{arith}
use Rattle.rt_agg.specs.ResultHolder.{no_rows}
use Rattle.rt_agg.specs.Totals.{joined}
use Rattle.rt_agg.proofs.Slots.{join_none, join_past}
use Rattle.rt_agg.proofs.totalling.add_sum.Goals as goal
use Rattle.rt_agg.proofs.totalling.add_sum.Goals.{else-group-len-via-then-group-len+else-from-len, else-group-len-via-else-group-len}

pub returns-else-group-len : goal.returns-else-group-len
returns-else-group-len c = elim c.else-group-len.branch [
  | else-group-len-via-then-group-len+else-from-len w ↦ join_none joined no_rows c.args.group c.args.totals.now c.args.from c.args.others.now (omega arith)
  | else-group-len-via-else-group-len w ↦ join_past joined no_rows c.args.group c.args.totals.now c.args.from c.args.others.now (omega arith)
]
