use Rattle.rt_live_controller.proofs.Seats.{has_answered, works_on}
use Rattle.rt_live_controller.proofs.controller_seat.ControllerSeat.work.Goals as goal

pub invariant_of-self : goal.invariant_of-self
invariant_of-self g c =
    works_on _ _ _ _ _ _ _ c.work-did.ensures.number c.work-did.ensures.did c.note.ensures _ c.work-did.ensures.took c.self.invariant

pub returns-clause-answered : goal.returns-clause-answered
returns-clause-answered g c = has_answered _ _ _ c.work-did.ensures.did
