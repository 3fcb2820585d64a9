use Rattle.std.proofs.Common.{◌∙◌, ap, length, refl}
use Rattle.rt_front.specs.Histories.{Known}
use Rattle.rt_live_controller.proofs.Mends.{has_stepped, is_ready}
use Rattle.rt_live_controller.proofs.mending.Mending.step.Goals as goal

pub step-result-requires-clause-ready : goal.step-result-requires-clause-ready
step-result-requires-clause-ready g c = is_ready _ _ _ _ c.self.invariant _ c.in-Some.is

pub invariant_of-self : goal.invariant_of-self
invariant_of-self g c =
    has_stepped _ _ _ _ c.self.invariant _ _ _ c.in-Some.repair c.step-result.new.self c.args.now c.step-result.result c.told-told.result c.in-Some.is refl
    c.note.ensures refl refl (c.told-told.ensures ∙ ap (λ (k : Known _). length k.seen) c.front.ensures) c.step-result.ensures.step c.step-result.ensures.ready
