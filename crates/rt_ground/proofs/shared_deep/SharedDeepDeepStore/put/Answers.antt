use Rattle.rt_ground.proofs.Promises.{put_shared}
use Rattle.rt_ground.proofs.shared_deep.SharedDeepDeepStore.put.Goals as goal

pub returns-clause-deep : goal.returns-clause-deep
returns-clause-deep g c = put_shared (record { path = c.args.path.now; bytes = c.args.bytes.now }) _ _ _ _ _ _ c.self.view_is c.put.ensures.deep
