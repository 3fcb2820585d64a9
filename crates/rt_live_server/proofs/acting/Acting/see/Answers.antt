use Rattle.std.proofs.Common.{◌∙◌, ap, length}
use Rattle.rt_front.specs.Histories.{Known}
use Rattle.rt_model.specs.declared.node.Seen.{Seen}
use Rattle.rt_live_server.specs.Acting.{ActingNow}
use Rattle.rt_live_server.proofs.Doing.{saw}
use Rattle.rt_live_server.proofs.acting.Acting.see.Goals as goal

pub invariant_of-self : goal.invariant_of-self
invariant_of-self g c =
    let is = c.self.invariant in
    let up = ap (λ (a : ActingNow). a.up) c.self.view_is ∙ c.requires.up in
    let told = c.told-told.ensures ∙ ap (λ (k : Known Seen). length k.seen) c.front.ensures in
    (is.0, saw _ _ _ is.1 _ c.see_ideal-result.new.store _ _ told _ up c.note.ensures c.see_ideal-result.ensures.step)
