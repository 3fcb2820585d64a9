use Rattle.std.proofs.Common.{◌∙◌, ap}
use Rattle.rt_live_server.specs.Acting.{ActingNow}
use Rattle.rt_live_server.proofs.Doing.{forced}
use Rattle.rt_live_server.proofs.acting.Acting.force_one.Goals as goal

pub invariant_of-self : goal.invariant_of-self
invariant_of-self g c =
    let is = c.self.invariant in
    let up = ap (λ (a : ActingNow). a.up) c.self.view_is ∙ c.requires.up in
    let did = c.force-result.ensures in
    (is.0, forced _ _ _ is.1 _ c.force-result.new.self c.args.partition c.args.sequence c.force-result.result up c.note.ensures did.step did.others)
