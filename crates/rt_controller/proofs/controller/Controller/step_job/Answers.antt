-- What the controller remembers makes the step lawful and stays so, and a step fails only where a store met a fault.
use Rattle.rt_controller.proofs.FailsJobs.{fails_work}
use Rattle.rt_controller.proofs.Keeps.{keeps_work}
use Rattle.rt_controller.proofs.MayStep.{may_step_on}
use Rattle.rt_controller.proofs.controller.Controller.step_job.Goals as goal

pub take_step-requires-clause-may : goal.take_step-requires-clause-may
take_step-requires-clause-may g c =
    may_step_on c.requires.ready.0 (g.S.Store.meaning c.args.store.now).seen c.args.self.now c.args.now _ c.requires.ready.1

pub returns-clause-ready : goal.returns-clause-ready
returns-clause-ready g c =
    λ s is.
    keeps_work s (g.S.Store.meaning c.args.store.now) (g.S.Store.meaning c.take_step.new.store) (g.D.DeepStore.meaning c.args.deep.now)
    (g.D.DeepStore.meaning c.take_step.new.deep) c.args.self.now c.args.job c.args.now c.take_step.new.self c.take_step.result is
    c.take_step.ensures

pub returns-clause-failed : goal.returns-clause-failed
returns-clause-failed g c =
    fails_work c.requires.ready.0 (g.S.Store.meaning c.args.store.now) (g.S.Store.meaning c.take_step.new.store)
    (g.D.DeepStore.meaning c.args.deep.now) (g.D.DeepStore.meaning c.take_step.new.deep) c.args.self.now c.args.job c.args.now
    c.take_step.new.self c.take_step.result c.requires.ready.1 c.take_step.ensures
