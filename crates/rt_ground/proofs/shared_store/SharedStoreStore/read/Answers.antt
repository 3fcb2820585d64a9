use Rattle.rt_store.specs.Answers.{reading}
use Rattle.rt_ground.proofs.Shares.{read_shared}
use Rattle.rt_ground.proofs.shared_store.SharedStoreStore.read.Goals as goal

pub returns-clause-store : goal.returns-clause-store
returns-clause-store g c = read_shared (reading c.args.key) g.J.Naming.starting _ _ _ _ _ _ c.self.view_is c.read.ensures.store
