use Rattle.std.proofs.Common.{sym, ◌∙◌}
use Rattle.rt_broker.proofs.Plans.{pieces_set}
use Rattle.rt_broker.proofs.plan.Plan.note.Goals as goal

pub invariant_of-self : goal.invariant_of-self
invariant_of-self c =
    c.self.invariant ∙ sym (pieces_set c.self.inside.asked c.in-Some.place c.at_mut.result.now c.push.new.self c.at_mut.ensures.item)
