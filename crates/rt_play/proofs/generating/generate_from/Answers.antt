use Rattle.rt_play.proofs.Generated.{nothing_generated}
use Rattle.rt_play.proofs.generating.generate_from.Goals as goal

pub returns-in-Err : goal.returns-in-Err
returns-in-Err g c = nothing_generated c.args.asked (g.K.Sink.meaning c.args.sink.now)
