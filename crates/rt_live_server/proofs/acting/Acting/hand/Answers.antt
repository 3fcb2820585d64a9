use Rattle.std.proofs.Common.{◌∙◌, ap, refl}
use Rattle.rt_live_server.specs.Acting.{ActingNow}
use Rattle.rt_live_server.proofs.Doing.{took}
use Rattle.rt_live_server.proofs.acting.Acting.hand.Goals as goal

pub invariant_of-self : goal.invariant_of-self
invariant_of-self g c =
    let is = c.self.invariant in
    let up = ap (λ (a : ActingNow). a.up) c.self.view_is ∙ c.requires.up in
    let did = c.hand_on.ensures c.args.reply refl in
    (is.0, took _ _ _ is.1 _ c.hand_on.new.server c.args.reply c.hand_on.result up c.note.ensures did.0 did.1)
