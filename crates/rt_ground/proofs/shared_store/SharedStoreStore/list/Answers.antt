use Rattle.rt_store.specs.Answers.{listing}
use Rattle.rt_ground.proofs.Shares.{read_shared}
use Rattle.rt_ground.proofs.shared_store.SharedStoreStore.list.Goals as goal

pub returns-clause-store : goal.returns-clause-store
returns-clause-store g c = read_shared (listing c.args.partition) g.J.Naming.starting _ _ _ _ _ _ c.self.view_is c.list.ensures.store
