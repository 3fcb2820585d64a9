use Rattle.rt_play.proofs.Generated.{no_usage, setup_refused}
use Rattle.rt_play.proofs.generating.generate.Goals as goal

pub returns-in-Err : goal.returns-in-Err
returns-in-Err g c =
    let s = g.K.Sink.meaning c.args.sink.now in
    let tells = setup_refused c.in-Err.fault c.args.asked s c.in-Err.ensures.says in
    record { tells = tells; used = no_usage _ c.args.asked s s tells }

pub returns-in-Ok : goal.returns-in-Ok
returns-in-Ok g c =
    let tells = c.generate_from.ensures in
    record { tells = tells; used = no_usage c.generate_from.result c.args.asked (g.K.Sink.meaning c.args.sink.now) (g.K.Sink.meaning c.generate_from.new.sink) tells }
