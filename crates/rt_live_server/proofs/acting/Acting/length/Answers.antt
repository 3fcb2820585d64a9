use Rattle.std.proofs.Common.{◌∙◌, ◌++◌, ◌∷◌, [], ap, refl, length}
use Rattle.rt_front.specs.Histories.{Known}
use Rattle.rt_ground.specs.declared.appended.Appended.{Appended}
use Rattle.rt_live_server.specs.Acting.{ActingNow}
use Rattle.rt_live_server.specs.declared.did.ServerDid.TheVariants.{Measured}
use Rattle.rt_live_server.proofs.Adding.{adds, looks_same}
use Rattle.rt_live_server.proofs.Doing.{measured}
use Rattle.rt_live_server.proofs.acting.Acting.length.Goals as goal

pub invariant_of-self : goal.invariant_of-self
invariant_of-self g c =
    let is = c.self.invariant in
    let up = ap (λ (a : ActingNow). a.up) c.self.view_is ∙ (c.if-not-can_act.ensures refl).1 in
    let told = c.told-told.ensures ∙ ap (λ (k : Known Appended). length k.seen) c.front.ensures in
    (is.0, measured _ _ _ is.1 _ c.length-result.new.self _ told c.args.partition c.length-result.result up c.note.ensures c.length-result.ensures.feed)

pub returns-then-not-can_act-clause-looks : goal.returns-then-not-can_act-clause-looks
returns-then-not-can_act-clause-looks g c = looks_same _

pub returns-clause-looks : goal.returns-clause-looks
returns-clause-looks g c =
    let d = Measured c.args.partition c.told-told.result c.length-result.result in
    record {
      adds = adds _ _ d (ap (λ (a : ActingNow). a.number) c.self.view_is) (c.note.ensures ∙ ap (λ (a : ActingNow). a.did ++ d ∷ []) c.self.view_is);
      server = ap (λ (a : ActingNow). a.server) c.self.view_is;
      up = ap (λ (a : ActingNow). a.up) c.self.view_is;
    }
