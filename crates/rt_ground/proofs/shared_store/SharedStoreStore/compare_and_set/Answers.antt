use Rattle.rt_model.specs.Lawful.{set}
use Rattle.rt_ground.proofs.Shares.{write_shared}
use Rattle.rt_ground.proofs.shared_store.SharedStoreStore.compare_and_set.Goals as goal

pub returns-clause-store : goal.returns-clause-store
returns-clause-store g c = write_shared (λ w. w.version) (set c.args.seen.now c.args.node.now) g.J.Naming.starting _ _ _ _ _ _ c.self.view_is c.compare_and_set.ensures.store
