use Rattle.std.proofs.Common.{◌∙◌, sym}
use Rattle.rt_agg.proofs.Results.{level_none}
use Rattle.rt_agg.proofs.ranked.compare_at.Goals as goal

pub returns-then-count-eq0 : goal.returns-then-count-eq0
returns-then-count-eq0 c = level_none c.args.width c.args.table.now.entries c.args.order.now c.args.one c.args.other (sym c.len-count.ensures.len ∙ c.if-count-eq0.true)
