use Rattle.std.proofs.Common.{arith}
use Rattle.rt_consumer.specs.Batch.{filled}
use Rattle.rt_consumer.proofs.Filling.{filled_stop}
use Rattle.rt_consumer.proofs.unsealed.fill.Goals as goal

pub returns-then-len-limit-2-clause-ok : goal.returns-then-len-limit-2-clause-ok
returns-then-len-limit-2-clause-ok c =
    filled_stop c.args.settings.now.schema c.args.limit c.loop-place.rows c.add.new.rows (filled c.args.settings.now.schema c.args.limit c.args.rows.now c.args.messages.now)
    c.args.messages.now c.loop-place.place c.get.result.now c.get.ensures.message c.loop-place.invariant.room c.in-Ok.ensures.ok
    (omega (arith, c.if-len-limit-2.true, c.len-in-loop-place.ensures.rows)) c.loop-place.invariant.left
