use Rattle.std.proofs.Common.{sym, subst}
use Rattle.rt_lines.specs.Reading.{ReadsInput}
use Rattle.rt_play.proofs.Completes.{plays_all, ran_out}
use Rattle.rt_play.proofs.player.play_source.Goals as goal

pub returns-in-Ok : goal.returns-in-Ok
returns-in-Ok g c =
    let from = g.S.Source.meaning c.args.source.now in let to = g.S.Source.meaning c.read_all.new.source in
    plays_all c.play_input.result from to (g.K.Sink.meaning c.args.sink.now) (g.K.Sink.meaning c.play_input.new.sink) c.as_slice.result.now
    (subst (λ input. ReadsInput from to input) (sym c.as_slice.ensures) c.in-Ok.ensures) c.play_input.ensures

pub returns-in-Err-Memory : goal.returns-in-Err-Memory
returns-in-Err-Memory g c =
    ran_out (g.S.Source.meaning c.args.source.now) (g.S.Source.meaning c.read_all.new.source) (g.K.Sink.meaning c.args.sink.now) (rw c.in-Err-Memory.field-0-is at c.in-Err-Memory.ensures)
