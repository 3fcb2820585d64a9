use Rattle.std.proofs.Common.{◌∙◌, ap, length}
use Rattle.rt_deep.specs.declared.deep_put.DeepPut.{DeepPut}
use Rattle.rt_front.specs.Histories.{Known}
use Rattle.rt_live_server.specs.Acting.{ActingNow}
use Rattle.rt_live_server.proofs.Doing.{loaded}
use Rattle.rt_live_server.proofs.acting.Acting.load_one.Goals as goal

pub invariant_of-self : goal.invariant_of-self
invariant_of-self g c =
    let is = c.self.invariant in
    let up = ap (λ (a : ActingNow). a.up) c.self.view_is ∙ c.requires.up in
    let told = c.told-told.ensures ∙ ap (λ (k : Known DeepPut). length k.seen) c.front.ensures in
    let did = c.download-result.ensures in
    (is.0, loaded _ _ _ is.1 _ c.download-result.new.deep _ _ told c.args.partition c.args.sequence c.download-result.result up c.note.ensures did.step did.others)
