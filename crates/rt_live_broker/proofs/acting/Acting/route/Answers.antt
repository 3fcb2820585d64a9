use Rattle.std.proofs.Common.{ap, length, ◌∙◌}
use Rattle.rt_front.specs.Histories.{Known}
use Rattle.rt_model.specs.declared.node.Seen.{Seen}
use Rattle.rt_live_broker.proofs.Acts.{routes}
use Rattle.rt_live_broker.proofs.Keeping.{met_none}
use Rattle.rt_live_broker.proofs.acting.Acting.route.Goals as goal

pub invariant_of-self-2 : goal.invariant_of-self-2
invariant_of-self-2 g c =
    routes _ _ _ c.route-result.new.store c.in-Some.begun c.route-result.new.self c.args.partition c.told-told.result c.route-result.result c.note.new.diary
    c.self.invariant c.in-Some.is c.route-result.ensures.routes (met_none c.route-result.result c.route-result.ensures.fault)
    c.route-result.ensures.same (c.told-told.ensures ∙ ap (λ (k : Known Seen). length k.seen) c.front.ensures) c.note.ensures
