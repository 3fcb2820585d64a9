use Rattle.std.proofs.Common.{refl}
use Rattle.rt_live_server.proofs.Seating.{seat_asks}
use Rattle.rt_live_server.proofs.seat.ServerSeat.ask.Goals as goal

pub invariant_of-self : goal.invariant_of-self
invariant_of-self g c = seat_asks _ _ c.self.invariant c.ask.new.self c.self.inside.posts c.send.new.self _ c.in-Ok.request refl c.send.ensures c.in-Ok.ensures
