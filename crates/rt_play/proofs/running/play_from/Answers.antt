use Rattle.rt_play.proofs.Beginnings.{made_tells}
use Rattle.rt_play.proofs.running.play_from.Goals as goal

pub returns-in-Ok : goal.returns-in-Ok
returns-in-Ok g c =
    made_tells c.in-Ok.world (record { setup = c.args.setup; desk = c.args.desk.now }) c.args.lines.now.lines (g.K.Sink.meaning c.args.sink.now) (g.K.Sink.meaning c.play_lines.new.sink) c.play_lines.result c.in-Ok.ensures c.play_lines.ensures
