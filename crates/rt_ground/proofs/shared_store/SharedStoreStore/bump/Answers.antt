use Rattle.rt_model.specs.Lawful.{bump}
use Rattle.rt_ground.proofs.Shares.{write_shared}
use Rattle.rt_ground.proofs.shared_store.SharedStoreStore.bump.Goals as goal

pub returns-clause-store : goal.returns-clause-store
returns-clause-store g c = write_shared (λ w. w.version) (bump c.args.instance) g.J.Naming.starting _ _ _ _ _ _ c.self.view_is c.bump.ensures.store
