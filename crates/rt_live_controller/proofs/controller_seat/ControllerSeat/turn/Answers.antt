use Rattle.std.proofs.Common.{subst, sym}
use Rattle.rt_lists.specs.Members.{Has}
use Rattle.rt_live_controller.specs.ControllerSeat.{ControllerSeatNow}
use Rattle.rt_live_controller.specs.Did.{replies_of}
use Rattle.rt_live_controller.proofs.Seats.{posts_on}
use Rattle.rt_live_controller.proofs.controller_seat.ControllerSeat.turn.Goals as goal

pub invariant_of-self : goal.invariant_of-self
invariant_of-self g c =
    posts_on _ _ _ _ _ _ _ c.answer.ensures
    (λ r e. subst (λ (seat : ControllerSeatNow). Has (replies_of seat.acts.did) r) (sym c.self-2.view_is) (c.in-Some.ensures.answered r e)) c.self-2.invariant
