use Rattle.rt_live.proofs.Lived.{lives_whole, ran_out}
use Rattle.rt_live.proofs.living.live_source.Goals as goal

pub returns-in-Ok : goal.returns-in-Ok
returns-in-Ok g c =
    lives_whole c.args.journal (g.S.Source.meaning c.args.source.now) (g.S.Source.meaning c.read_all.new.source) (g.K.Sink.meaning c.args.sink.now)
    (g.K.Sink.meaning c.live_text.new.sink) c.in-Ok.text c.live_text.result c.in-Ok.ensures c.live_text.ensures

pub returns-in-Err-Memory : goal.returns-in-Err-Memory
returns-in-Err-Memory g c =
    ran_out c.args.journal (g.S.Source.meaning c.args.source.now) (g.S.Source.meaning c.read_all.new.source) (g.K.Sink.meaning c.args.sink.now)
    (rw c.in-Err-Memory.field-0-is at c.in-Err-Memory.ensures)
