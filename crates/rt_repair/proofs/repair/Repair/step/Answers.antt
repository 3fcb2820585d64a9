-- What the repair remembers makes its write lawful, stays so, and leaves no failure but by a fault.
use Rattle.rt_repair.proofs.MayRepair.{may_repair}
use Rattle.rt_repair.proofs.Keeping.{kept_step}
use Rattle.rt_repair.proofs.Failing.{failed_step}
use Rattle.rt_repair.proofs.repair.Repair.step.Goals as goal

pub take_step-requires-clause-may : goal.take_step-requires-clause-may
take_step-requires-clause-may g c =
    may_repair c.requires.ready.0 (g.S.Store.meaning c.args.store.now).seen c.args.self.now c.args.now c.requires.ready.1

pub returns-clause-ready : goal.returns-clause-ready
returns-clause-ready g c =
    λ s is.
    kept_step s (g.S.Store.meaning c.args.store.now) (g.S.Store.meaning c.take_step.new.store) c.args.self.now c.args.now
    c.take_step.new.self c.take_step.result is c.take_step.ensures

pub returns-clause-failed : goal.returns-clause-failed
returns-clause-failed g c =
    failed_step c.requires.ready.0 (g.S.Store.meaning c.args.store.now) (g.S.Store.meaning c.take_step.new.store) c.args.self.now
    c.args.now c.take_step.new.self c.take_step.result c.requires.ready.1 c.take_step.ensures
