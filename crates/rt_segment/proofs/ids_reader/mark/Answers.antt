use Rattle.std.proofs.Common.{arith}
use Rattle.rt_segment.proofs.Ids.{marked_more}
use Rattle.rt_segment.proofs.ids_reader.mark.Goals as goal

pub loop-id-preserved : goal.loop-id-preserved
loop-id-preserved c = marked_more c.loop-id.used c.args.ids.now c.loop-id.id-index c.loop-id-test.true (λ k d l. omega (arith, c.requires.known k d l, c.loop-id.auto.used)) c.loop-id.invariant
