use Rattle.std.proofs.Common.{◌∙◌, ap, length, refl}
use Rattle.rt_front.specs.Histories.{Known}
use Rattle.rt_live_controller.proofs.Acted.{has_worked, is_ready}
use Rattle.rt_live_controller.proofs.acting.Acting.work.Goals as goal

pub step_job-result-requires-clause-ready : goal.step_job-result-requires-clause-ready
step_job-result-requires-clause-ready g c = is_ready _ _ _ _ c.self.invariant

pub invariant_of-self : goal.invariant_of-self
invariant_of-self g c =
    has_worked _ _ _ _ c.self.invariant _ _ _ c.args.job c.moment-now.result c.step_job-result.result c.told-told.result c.told-deep_told.result c.note.ensures refl
    (c.told-told.ensures ∙ ap (λ (k : Known _). length k.seen) c.front.ensures) (c.told-deep_told.ensures ∙ ap (λ (k : Known _). length k.seen) c.front-2.ensures)
    c.step_job-result.ensures.step c.step_job-result.ensures.ready
