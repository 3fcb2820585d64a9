use Rattle.std.proofs.Common.{◌∙◌, ap, length, refl}
use Rattle.rt_front.specs.Histories.{Known}
use Rattle.rt_live_controller.proofs.Acted.{has_heard}
use Rattle.rt_live_controller.proofs.acting.Acting.hear.Goals as goal

pub invariant_of-self : goal.invariant_of-self
invariant_of-self g c =
    has_heard _ _ _ _ c.self.invariant _ _ _ c.args.request c.moment-now.result c.on_request-result.result c.told-told.result c.told-deep_told.result c.note.ensures refl
    (c.told-told.ensures ∙ ap (λ (k : Known _). length k.seen) c.front.ensures) (c.told-deep_told.ensures ∙ ap (λ (k : Known _). length k.seen) c.front-2.ensures)
    c.requires.within c.on_request-result.ensures.step c.on_request-result.ensures.ready
