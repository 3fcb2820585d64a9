use Rattle.rt_play.proofs.Beginnings.{beginning_passed, beginning_stops}
use Rattle.rt_play.proofs.running.play_input.Goals as goal

pub returns-in-Ok : goal.returns-in-Ok
returns-in-Ok g c =
    beginning_passed c.args.input.now c.make-lines.result c.in-Ok.beginning c.read_beginning.new.lines.lines (g.K.Sink.meaning c.args.sink.now) (g.K.Sink.meaning c.play_from_start.new.sink) c.play_from_start.result
    c.make-lines.ensures (c.in-Ok.ensures {u = tt}).reads.0 c.play_from_start.ensures

pub returns-in-Err : goal.returns-in-Err
returns-in-Err g c =
    beginning_stops c.in-Err.fault c.args.input.now c.make-lines.result c.read_beginning.new.lines (g.K.Sink.meaning c.args.sink.now) c.make-lines.ensures (c.in-Err.ensures {u = tt}).reads
