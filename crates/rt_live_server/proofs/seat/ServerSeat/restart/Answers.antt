use Rattle.rt_live_server.proofs.Seating.{seat_quiet}
use Rattle.rt_live_server.proofs.seat.ServerSeat.restart.Goals as goal

pub invariant_of-self : goal.invariant_of-self
invariant_of-self g c = seat_quiet _ _ c.self.invariant c.restart-result.new.self c.restart-result.ensures
