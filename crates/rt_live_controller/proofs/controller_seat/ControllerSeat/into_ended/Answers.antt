use Rattle.rt_live_controller.proofs.Seats.{ends_so}
use Rattle.rt_live_controller.proofs.controller_seat.ControllerSeat.into_ended.Goals as goal

pub returns-clause-ended : goal.returns-clause-ended
returns-clause-ended g c =
    ends_so _ _ _ _ _ _ _ _ c.acting.view_is c.into_posts.ensures c.acting.invariant.is c.self.invariant c.heard_in.ensures
