use Rattle.rt_ground.proofs.Promises.{get_shared}
use Rattle.rt_ground.proofs.shared_deep.SharedDeepDeepStore.get.Goals as goal

pub returns-clause-deep : goal.returns-clause-deep
returns-clause-deep g c = get_shared c.args.path.now _ _ _ _ _ _ c.self.view_is c.get.ensures.deep
