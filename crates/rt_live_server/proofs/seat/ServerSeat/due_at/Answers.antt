use Rattle.rt_live_server.proofs.Seating.{seat_quiet}
use Rattle.rt_live_server.proofs.seat.ServerSeat.due_at.Goals as goal

pub invariant_of-self : goal.invariant_of-self
invariant_of-self g c = seat_quiet _ _ c.self.invariant c.next_of-due.new.self c.next_of-due.ensures.adds
