use Rattle.std.proofs.Common.{subst}
use Rattle.rt_ground.specs.Lawfulness.{IsLawfulStore}
use Rattle.rt_ground.proofs.Entries.{callers_told}
use Rattle.rt_ground.proofs.Stores.{lawful_store}
use Rattle.rt_ground.proofs.store_value.StoreValue.tell.Goals as goal

pub returns-clause-callers : goal.returns-clause-callers
returns-clause-callers g c = callers_told _ g.J.Naming.callers _ _ c.self.invariant.3 c.self.view_is c.tell.ensures.callers

pub returns-clause-lawful : goal.returns-clause-lawful
returns-clause-lawful g c = subst (IsLawfulStore g.J.Naming.starting) c.self.view_is (lawful_store g.J.Naming.starting _ c.self.invariant.2)
