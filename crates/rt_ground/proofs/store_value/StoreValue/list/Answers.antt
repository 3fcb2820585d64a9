use Rattle.std.proofs.Common.{◌∙◌}
use Rattle.rt_store.specs.Answers.{listing}
use Rattle.rt_ground.proofs.Closed.{read_closed}
use Rattle.rt_ground.proofs.store_value.StoreValue.list.Goals as goal

pub invariant_of-self : goal.invariant_of-self
invariant_of-self g c =
    let closed = read_closed (listing c.args.partition) g.J.Naming.starting c.args.self.now _ _ _ _ _ _ _ c.self.view_is c.self.invariant.1 c.self.invariant.2 c.tell.ensures.log c.list-answer.ensures c.tell.ensures.told in
    (c.tell.ensures.same.0 ∙ c.self.invariant.0, closed.holds, closed.lawful, c.tell.ensures.made ∙ c.self.invariant.3)

pub returns-clause-store : goal.returns-clause-store
returns-clause-store g c =
    (read_closed (listing c.args.partition) g.J.Naming.starting c.args.self.now _ _ _ _ _ _ _ c.self.view_is c.self.invariant.1 c.self.invariant.2 c.tell.ensures.log c.list-answer.ensures c.tell.ensures.told).says
