use Rattle.std.proofs.Common.{◌∙◌, ap, length}
use Rattle.rt_front.specs.Histories.{Known}
use Rattle.rt_model.specs.declared.node.Seen.{Seen}
use Rattle.rt_live_server.specs.Acting.{ActingNow}
use Rattle.rt_live_server.proofs.Doing.{restarted}
use Rattle.rt_live_server.proofs.acting.Acting.restart.Goals as goal

pub invariant_of-self : goal.invariant_of-self
invariant_of-self g c =
    let is = c.self.invariant in
    let down = ap (λ (a : ActingNow). a.up) c.self.view_is ∙ c.requires.down in
    let told = c.told-told.ensures ∙ ap (λ (k : Known Seen). length k.seen) c.front.ensures in
    (is.0, restarted _ _ _ is.1 _ c.restart-result.new.store c.restart-result.new.self _ _ c.restart-result.result told down c.is_ok-self-inside.ensures.value c.note.ensures c.restart-result.ensures.step)
