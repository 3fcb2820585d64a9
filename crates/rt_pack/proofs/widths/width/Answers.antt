use Rattle.std.proofs.Common.{arith}
use Rattle.rt_pack.proofs.LeastWidth.{width_is, width_is_least}
use Rattle.rt_pack.proofs.widths.width.Goals as goal

pub returns-clause-value : goal.returns-clause-value
returns-clause-value c = width_is _ _ (width_is_least c.args.count c.saturating_sub.result (omega arith) (omega arith)) (omega arith)

pub returns-clause-enough : goal.returns-clause-enough
returns-clause-enough c = (width_is_least c.args.count c.saturating_sub.result (omega arith) (omega arith)).enough

pub returns-clause-least : goal.returns-clause-least
returns-clause-least c = (width_is_least c.args.count c.saturating_sub.result (omega arith) (omega arith)).least
