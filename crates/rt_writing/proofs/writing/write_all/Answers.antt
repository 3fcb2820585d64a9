use Rattle.std.proofs.Common.{◌∙◌, ap, take, arith}
use Rattle.rt_base.specs.Sink.{added, Took}
use Rattle.rt_writing.proofs.Writes.{put_more}
use Rattle.rt_writing.proofs.writing.write_all.Goals as goal

pub loop-done-preserved : goal.loop-done-preserved
loop-done-preserved g c =
    let now = g.K.Sink.meaning c.loop-done.sink in
    let took : Took now (g.K.Sink.meaning c.write.new.self) c.split_at.result.1.now c.in_ok-done.field-0 = c.in_ok-done.ensures in
    record {
      within = omega (arith, took.fits, c.split_at.ensures.back_len);
      taken = put_more _ now.taken _ c.args.piece.now c.loop-done.done c.in_ok-done.field-0 c.loop-done.invariant.taken
          (took.taken ∙ ap (λ rest. added now.taken (take c.in_ok-done.field-0 rest)) c.split_at.ensures.back);
      counts = omega (arith, took.counts);
    }
