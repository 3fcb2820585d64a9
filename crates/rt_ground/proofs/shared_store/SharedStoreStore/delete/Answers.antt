use Rattle.rt_model.specs.Lawful.{delete}
use Rattle.rt_ground.proofs.Shares.{write_shared}
use Rattle.rt_ground.proofs.shared_store.SharedStoreStore.delete.Goals as goal

pub returns-clause-store : goal.returns-clause-store
returns-clause-store g c = write_shared (λ w. tt) (delete c.args.seen.now) g.J.Naming.starting _ _ _ _ _ _ c.self.view_is c.delete.ensures.store
