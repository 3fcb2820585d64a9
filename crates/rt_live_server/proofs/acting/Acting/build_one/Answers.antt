use Rattle.std.proofs.Common.{◌∙◌, ap}
use Rattle.rt_live_server.specs.Acting.{ActingNow}
use Rattle.rt_live_server.proofs.Doing.{built}
use Rattle.rt_live_server.proofs.acting.Acting.build_one.Goals as goal

pub invariant_of-self : goal.invariant_of-self
invariant_of-self g c =
    let is = c.self.invariant in
    let up = ap (λ (a : ActingNow). a.up) c.self.view_is ∙ c.requires.up in
    let did = c.build-result.ensures in
    (is.0, built _ _ _ is.1 _ c.build-result.new.self c.args.partition c.args.sequence c.build-result.result up c.note.ensures did.step did.others)
