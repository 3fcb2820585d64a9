use Rattle.std.proofs.Common.{◌∙◌, ◌++◌, ◌∷◌, [], ap, refl, sym, subst, length}
use Rattle.rt_front.specs.Histories.{Known}
use Rattle.rt_ground.specs.StreamCalls.{seen_by}
use Rattle.rt_ground.specs.declared.appended.Appended.{Appended}
use Rattle.rt_live_server.specs.Acting.{ActingNow, IsLengthOf}
use Rattle.rt_live_server.specs.declared.did.ServerDid.TheVariants.{Consumed}
use Rattle.rt_live_server.proofs.Adding.{adds, adds_then}
use Rattle.rt_live_server.proofs.Doing.{consumed}
use Rattle.rt_live_server.proofs.Needs.{messages_needed}
use Rattle.rt_live_server.proofs.acting.Acting.consume_one.Goals as goal

pub consume-result-requires : goal.consume-result-requires
consume-result-requires g c =
    let is = subst (λ (a : ActingNow). IsLengthOf (seen_by g.J.Naming.starting.partitions a.fronts.stream) c.args.partition c.in-Some.length) (sym c.self.view_is) c.in-Some.ensures.length in
    messages_needed _ _ _ c.self.invariant.1 _ c.args.partition c.args.sequence c.in-Some.length is (c.if-not-has_taken_to.ensures refl)

pub invariant_of-self : goal.invariant_of-self
invariant_of-self g c =
    let is = c.self.invariant in
    let up = ap (λ (a : ActingNow). a.up) c.self.view_is ∙ c.in-Some.ensures.looks.up ∙ c.requires.up in
    let told = c.told-told.ensures ∙ ap (λ (k : Known Appended). length k.seen) c.front.ensures in
    let did = c.consume-result.ensures in
    (is.0, consumed _ _ _ is.1 _ c.consume-result.new.feed _ _ told c.args.partition c.args.sequence _ c.args.now c.consume-result.result up c.note.ensures did.step did.others)

pub returns : goal.returns
returns g c =
    let d = Consumed c.args.partition c.args.sequence 100 c.args.now c.told-told.result c.consume-result.result in
    adds_then _ _ _ [] [] [] c.in-Some.ensures.looks.adds
    (adds _ _ d (ap (λ (a : ActingNow). a.number) c.self.view_is) (c.note.ensures ∙ ap (λ (a : ActingNow). a.did ++ d ∷ []) c.self.view_is))
