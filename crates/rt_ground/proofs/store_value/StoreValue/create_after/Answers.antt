use Rattle.std.proofs.Common.{◌∙◌}
use Rattle.rt_model.specs.Lawful.{create_after}
use Rattle.rt_ground.proofs.Closed.{write_closed}
use Rattle.rt_ground.proofs.store_value.StoreValue.create_after.Goals as goal

pub invariant_of-self-2 : goal.invariant_of-self-2
invariant_of-self-2 g c =
    let closed = write_closed (λ w. tt) (create_after c.args.key c.args.node.now c.args.prior.now) g.J.Naming.starting c.args.self.now _ c.reserve.new.self.log c.settle.new.register.log _ _ _ _ _ _ c.self.view_is c.self.invariant.1 c.self.invariant.2 c.requires.lawful c.reserve.ensures.same.1 c.create_after-answer.ensures c.settle.ensures.settled c.settle.ensures.same in
    (c.settle.ensures.names.0 ∙ c.reserve.ensures.same.0 ∙ c.self.invariant.0, closed.holds, closed.lawful, c.settle.ensures.made ∙ c.reserve.ensures.made ∙ c.self.invariant.3)

pub returns-clause-store : goal.returns-clause-store
returns-clause-store g c =
    (write_closed (λ w. tt) (create_after c.args.key c.args.node.now c.args.prior.now) g.J.Naming.starting c.args.self.now _ c.reserve.new.self.log c.settle.new.register.log _ _ _ _ _ _ c.self.view_is c.self.invariant.1 c.self.invariant.2 c.requires.lawful c.reserve.ensures.same.1 c.create_after-answer.ensures c.settle.ensures.settled c.settle.ensures.same).says
