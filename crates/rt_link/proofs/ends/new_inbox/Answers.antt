use Rattle.rt_link.proofs.Moves.{begins}
use Rattle.rt_link.proofs.ends.new_inbox.Goals as goal

pub ruled-requires-clause-rule : goal.ruled-requires-clause-rule
ruled-requires-clause-rule c = begins
