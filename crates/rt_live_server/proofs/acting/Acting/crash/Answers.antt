use Rattle.rt_live_server.proofs.Doing.{crashes}
use Rattle.rt_live_server.proofs.acting.Acting.crash.Goals as goal

pub invariant_of-self : goal.invariant_of-self
invariant_of-self g c =
    let is = c.self.invariant in
    (is.0, crashes _ _ _ is.1 _ c.crash.new.self c.crash.ensures c.note.ensures)
