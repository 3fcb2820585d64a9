use Rattle.std.proofs.Common.{ap, length, ◌∙◌}
use Rattle.rt_front.specs.Histories.{Known}
use Rattle.rt_model.specs.declared.node.Seen.{Seen}
use Rattle.rt_live_broker.proofs.Acts.{looks}
use Rattle.rt_live_broker.proofs.acting.Acting.look.Goals as goal

pub invariant_of-self : goal.invariant_of-self
invariant_of-self g c =
    looks _ _ _ c.read-result.new.self c.args.partition c.args.sequence c.told-told.result c.read-result.result c.note.new.diary c.self.invariant
    c.read-result.ensures.store (c.told-told.ensures ∙ ap (λ (k : Known Seen). length k.seen) c.front.ensures) c.note.ensures
