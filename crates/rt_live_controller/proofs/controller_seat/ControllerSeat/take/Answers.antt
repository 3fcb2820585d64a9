use Rattle.rt_live_controller.proofs.Seats.{has_answered, takes_on}
use Rattle.rt_live_controller.proofs.controller_seat.ControllerSeat.take.Goals as goal

pub invariant_of-self-2 : goal.invariant_of-self-2
invariant_of-self-2 g c =
    takes_on _ _ _ _ _ _ _ c.take-did.ensures.number c.take-did.ensures.did c.note.ensures _ _ _ _ c.in-Some.ensures.2 c.take-did.ensures.took c.self.invariant

pub returns-clause-answered : goal.returns-clause-answered
returns-clause-answered g c = has_answered _ _ _ c.take-did.ensures.did
