use Rattle.rt_link.proofs.Moves.{makes_as}
use Rattle.rt_link.proofs.ends.new_post.Goals as goal

pub another-ticket-requires-clause-rule : goal.another-ticket-requires-clause-rule
another-ticket-requires-clause-rule c = makes_as _ _ _ _ _ c.inbox.invariant.knows
