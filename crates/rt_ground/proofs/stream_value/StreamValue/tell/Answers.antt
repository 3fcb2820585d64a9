use Rattle.rt_ground.proofs.Entries.{callers_told}
use Rattle.rt_ground.proofs.stream_value.StreamValue.tell.Goals as goal

pub returns-clause-callers : goal.returns-clause-callers
returns-clause-callers g c = callers_told _ g.J.Naming.callers _ _ c.self.invariant.2 c.self.view_is c.tell.ensures.callers
