use Rattle.std.proofs.Common.{◌∙◌, ◌<◌, ◌++◌, ◌∷◌, [], ap, arith, length}
use Rattle.rt_front.specs.Histories.{Known}
use Rattle.rt_model.specs.declared.node.Seen.{Seen}
use Rattle.rt_live_server.specs.Acting.{ActingNow}
use Rattle.rt_live_server.specs.declared.did.ServerDid.TheVariants.{Moved}
use Rattle.rt_live_server.proofs.Adding.{adds}
use Rattle.rt_live_server.proofs.Doing.{moved}
use Rattle.rt_live_server.proofs.Needs.{start_needed}
use Rattle.rt_live_server.proofs.acting.Acting.move_one.Goals as goal

pub transit-result-requires-clause-start : goal.transit-result-requires-clause-start
transit-result-requires-clause-start g c = start_needed _ _ _ c.self.invariant.1 c.args.partition c.args.sequence

pub invariant_of-self : goal.invariant_of-self
invariant_of-self g c =
    let is = c.self.invariant in
    let up = ap (λ (a : ActingNow). a.up) c.self.view_is ∙ c.requires.up in
    let told = c.told-told.ensures ∙ ap (λ (k : Known Seen). length k.seen) c.front.ensures in
    let within : c.args.partition.0 < g.K.Cluster.names.setup.partitions = omega (arith, c.if-partition-self.false, is.0) in
    (is.0, moved _ _ _ is.1 _ c.transit-result.new.store _ _ told c.args.partition c.args.sequence c.args.now c.transit-result.result up within c.note.ensures c.transit-result.ensures.step)

pub returns : goal.returns
returns g c =
    let d = Moved c.args.partition c.args.sequence c.args.now c.told-told.result c.transit-result.result in
    adds _ _ d (ap (λ (a : ActingNow). a.number) c.self.view_is) (c.note.ensures ∙ ap (λ (a : ActingNow). a.did ++ d ∷ []) c.self.view_is)
