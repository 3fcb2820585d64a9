use Rattle.std.proofs.Common.{string_bytes, subst}
use Rattle.rt_live.proofs.Lived.{writes_run}
use Rattle.rt_live.proofs.living.live_text.Goals as goal
use Rattle.rt_live_input.specs.Input.{IsRead}

pub returns-in-Ok-live_input : goal.returns-in-Ok-live_input
returns-in-Ok-live_input g c =
    writes_run c.args.journal c.args.text (g.K.Sink.meaning c.args.sink.now) (g.K.Sink.meaning c.write.new.sink) c.in-Ok-live_input.written.ends.items
    (string_bytes c.in-Ok-live_input.written.text) c.write.result
    (record {
      input = c.in-Ok.input;
      read = subst (λ text. IsRead text c.in-Ok.input) c.as_slice.ensures c.in-Ok.ensures.reads;
      is = c.in-Ok.ensures.fits;
      run = c.in-Ok-live_input.ensures;
    })
    c.write.ensures
