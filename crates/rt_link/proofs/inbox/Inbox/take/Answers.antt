use Rattle.rt_link.proofs.Counts.{owner_takes}
use Rattle.rt_link.proofs.Moves.{takes_as, adds_up_as}
use Rattle.rt_link.proofs.inbox.Inbox.take.Goals as goal

pub pop_as-requires-clause-rule : goal.pop_as-requires-clause-rule
pop_as-requires-clause-rule g c = (takes_as _ _ _ _ _ c.self.invariant.knows, adds_up_as _ _ _ _ _ c.self.invariant.knows)

pub invariant_of-self-2 : goal.invariant_of-self-2
invariant_of-self-2 g c =
    owner_takes _ _ _ _ _ c.in_ok-sender.field-0 c.self.invariant c.in_ok-sender.ensures.queue c.in_ok-sender.ensures.rule c.count_one.ensures
