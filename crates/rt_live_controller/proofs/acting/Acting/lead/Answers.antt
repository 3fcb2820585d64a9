use Rattle.rt_live_controller.proofs.Acted.{has_believed}
use Rattle.rt_live_controller.proofs.acting.Acting.lead.Goals as goal

pub invariant_of-self : goal.invariant_of-self
invariant_of-self g c = has_believed _ _ _ _ c.self.invariant _ _ c.believe.ensures c.note.ensures
