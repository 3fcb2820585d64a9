use Rattle.std.proofs.Common.{subst, sym}
use Rattle.rt_link.specs.declared.rule.Knows.{Knows}
use Rattle.rt_link.specs.Delivery.{TookInOrder}
use Rattle.rt_link.proofs.Counts.{in_order}
use Rattle.rt_link.proofs.Moves.{gathers_as, adds_up_as}
use Rattle.rt_link.proofs.inbox.Inbox.gather.Goals as goal

pub absorb-requires-clause-rule : goal.absorb-requires-clause-rule
absorb-requires-clause-rule c = gathers_as _ _ _ _ _ _ _ _ _ c.self.invariant.knows c.post.invariant.knows

pub learn_as-requires-clause-rule : goal.learn_as-requires-clause-rule
learn_as-requires-clause-rule c = adds_up_as _ _ _ _ _ c.absorb.ensures.rule

pub returns-clause-order : goal.returns-clause-order
returns-clause-order c =
    subst (λ (v : Knows). TookInOrder v.taken v.gathered) (sym c.learn_as.ensures.queue.1) (in_order _ _ _ c.learn_as.ensures.rule.0 c.learn_as.ensures.rule.1)
