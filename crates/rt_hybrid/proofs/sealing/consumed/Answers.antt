use Rattle.std.proofs.Common.{◌∙◌, Some, ap, arith}
use Rattle.rt_mutable.specs.Consuming.{Consuming, after_message}
use Rattle.rt_hybrid.proofs.ConsumedRows.{consumed_more, few_consumed, fits_consumed}
use Rattle.rt_hybrid.proofs.sealing.consumed.Goals as goal

pub index-requires-clause-rows : goal.index-requires-clause-rows
index-requires-clause-rows c = few_consumed c.loop-row.segment c.args.schema.now.columns c.args.rows.now c.loop-row.row-index c.loop-row.invariant c.requires.few

pub index-requires-clause-fits : goal.index-requires-clause-fits
index-requires-clause-fits c =
    fits_consumed c.args.schema.now c.loop-row.segment c.args.rows.now c.loop-row.row-index c.row-item.result c.loop-row.invariant (omega arith) c.row-item.is c.requires.fit

pub loop-row-preserved : goal.loop-row-preserved
loop-row-preserved c =
    c.in_ok-index.ensures.ok ∙ ap (λ (s : Consuming). after_message s (Some c.row-item.result)) c.loop-row.invariant
    ∙ consumed_more c.args.schema.now.columns c.args.rows.now c.loop-row.row-index c.row-item.result (omega arith) c.row-item.is
