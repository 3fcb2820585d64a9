use Rattle.rt_live_controller.proofs.Acted.{has_passed}
use Rattle.rt_live_controller.proofs.acting.Acting.pass.Goals as goal

pub invariant_of-self : goal.invariant_of-self
invariant_of-self g c = has_passed _ _ _ _ c.self.invariant _ c.args.envelope c.requires.passed c.note.ensures
