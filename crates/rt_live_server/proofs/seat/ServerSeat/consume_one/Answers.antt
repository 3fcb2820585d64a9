use Rattle.rt_live_server.proofs.Seating.{seat_quiet}
use Rattle.rt_live_server.proofs.seat.ServerSeat.consume_one.Goals as goal

pub invariant_of-self : goal.invariant_of-self
invariant_of-self g c = seat_quiet _ _ c.self.invariant c.consume_one-result.new.self c.consume_one-result.ensures
