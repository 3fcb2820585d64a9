use Rattle.std.proofs.Common.{◌∷◌, [], subst}
use Rattle.rt_play.proofs.Generated.{last_stops, texts_stopped}
use Rattle.rt_play.proofs.Tellings.{put_text}
use Rattle.rt_play.specs.Generating.{end_texts}
use Rattle.rt_writing.specs.Writing.{FailsWithin, Puts}
use Rattle.rt_play.proofs.generated_report.write_report.Goals as goal

pub returns-in-Err : goal.returns-in-Err
returns-in-Err g c =
    texts_stopped c.in-Err.fault (end_texts c.args.world.now.state 0 c.args.partitions) (c.args.answer.now ∷ []) _ _ c.in-Err.ensures

pub returns-in-Ok-write_all : goal.returns-in-Ok-write_all
returns-in-Ok-write_all g c =
    put_text _ _ _ (end_texts c.args.world.now.state 0 c.args.partitions) c.args.answer.now c.in-Ok.ensures
    (subst (λ t. Puts (g.K.Sink.meaning c.write_ends.new.sink) (g.K.Sink.meaning c.write_all.new.sink) t) c.as_bytes.ensures.value c.in-Ok-write_all.ensures)

pub returns-in-Err-write_all : goal.returns-in-Err-write_all
returns-in-Err-write_all g c =
    last_stops (end_texts c.args.world.now.state 0 c.args.partitions) c.args.answer.now _ _ _ c.in-Ok.ensures
    (subst (λ t. FailsWithin t (g.K.Sink.meaning c.write_ends.new.sink) (g.K.Sink.meaning c.write_all.new.sink)) c.as_bytes.ensures.value c.in-Err-write_all.ensures)
