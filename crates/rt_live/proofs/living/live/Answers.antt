use Rattle.rt_live.proofs.Lived.{completes}
use Rattle.rt_live.proofs.living.live.Goals as goal

pub returns-in-Some-clause-complete : goal.returns-in-Some-clause-complete
returns-in-Some-clause-complete g c = λ journal text asked left read wrote.
    completes c.in-Some.journal c.live_source.result (g.S.Source.meaning c.args.source.now) (g.S.Source.meaning c.live_source.new.source)
    (g.K.Sink.meaning c.args.sink.now) (g.K.Sink.meaning c.live_source.new.sink) text c.live_source.ensures left read wrote
