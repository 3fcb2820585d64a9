use Rattle.std.proofs.Common.{sym}
use Rattle.rt_ground.proofs.Deeps.{once_still}
use Rattle.rt_ground.proofs.Entries.{callers_told}
use Rattle.rt_ground.proofs.deep_value.DeepValue.tell.Goals as goal

pub returns-clause-callers : goal.returns-clause-callers
returns-clause-callers g c = callers_told _ g.J.Naming.callers _ _ c.self.invariant.2 c.self.view_is c.tell.ensures.callers

pub returns-clause-once : goal.returns-clause-once
returns-clause-once g c = once_still _ _ (sym c.self.view_is) c.self.invariant.3
