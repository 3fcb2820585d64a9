use Rattle.std.proofs.Common.{◌∙◌}
use Rattle.rt_ground.proofs.Deeps.{get_closed, once_still}
use Rattle.rt_ground.proofs.deep_value.DeepValue.get.Goals as goal

pub invariant_of-self : goal.invariant_of-self
invariant_of-self g c = (
  c.tell.ensures.same.0 ∙ c.self.invariant.0,
  (get_closed c.args.path.now c.args.self.now _ _ _ _ _ _ _ c.self.view_is c.self.invariant.1 c.tell.ensures.log c.get-answer.ensures c.tell.ensures.told).holds,
  c.tell.ensures.made ∙ c.self.invariant.2,
  once_still _ _ c.tell.ensures.log c.self.invariant.3,
)

pub returns-clause-deep : goal.returns-clause-deep
returns-clause-deep g c =
    (get_closed c.args.path.now c.args.self.now _ _ _ _ _ _ _ c.self.view_is c.self.invariant.1 c.tell.ensures.log c.get-answer.ensures c.tell.ensures.told).says
