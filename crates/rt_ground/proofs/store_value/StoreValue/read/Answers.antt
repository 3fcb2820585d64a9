use Rattle.std.proofs.Common.{◌∙◌}
use Rattle.rt_store.specs.Answers.{reading}
use Rattle.rt_ground.proofs.Closed.{read_closed}
use Rattle.rt_ground.proofs.store_value.StoreValue.read.Goals as goal

pub invariant_of-self : goal.invariant_of-self
invariant_of-self g c =
    let closed = read_closed (reading c.args.key) g.J.Naming.starting c.args.self.now _ _ _ _ _ _ _ c.self.view_is c.self.invariant.1 c.self.invariant.2 c.tell.ensures.log c.read-answer.ensures c.tell.ensures.told in
    (c.tell.ensures.same.0 ∙ c.self.invariant.0, closed.holds, closed.lawful, c.tell.ensures.made ∙ c.self.invariant.3)

pub returns-clause-store : goal.returns-clause-store
returns-clause-store g c =
    (read_closed (reading c.args.key) g.J.Naming.starting c.args.self.now _ _ _ _ _ _ _ c.self.view_is c.self.invariant.1 c.self.invariant.2 c.tell.ensures.log c.read-answer.ensures c.tell.ensures.told).says
