use Rattle.std.proofs.Common.{◌≡◌, refl, subst, sym, true}
use Rattle.rt_live_controller.specs.Repairing.{RepairerActs, is_free}
use Rattle.rt_live_controller.proofs.Mends.{has_begun}
use Rattle.rt_live_controller.proofs.mending.Mending.begin.Goals as goal

pub invariant_of-self : goal.invariant_of-self
invariant_of-self g c =
    has_begun _ _ _ _ c.self.invariant _ _ c.args.partition c.in_ok-begin.field-0 refl c.in_ok-begin.ensures c.note.ensures c.requires.within
    (subst (λ (a : RepairerActs). is_free a.repair ≡ true) (sym c.self.view_is) c.requires.free)
