-- What the controller remembers stays so, and it names a fault only where a store met one.
use Rattle.rt_controller.proofs.FailsRequests.{fails_request}
use Rattle.rt_controller.proofs.KeepsRequests.{keeps_request}
use Rattle.rt_controller.proofs.controller.Controller.on_request.Goals as goal

pub returns-clause-ready : goal.returns-clause-ready
returns-clause-ready g c =
    λ s within is.
    keeps_request s (g.S.Store.meaning c.args.store.now) (g.S.Store.meaning c.take_request.new.store)
    (g.D.DeepStore.meaning c.args.deep.now) (g.D.DeepStore.meaning c.take_request.new.deep) c.args.self.now c.args.request.now c.args.now
    c.take_request.new.self c.take_request.result within is c.take_request.ensures

pub returns-clause-failed : goal.returns-clause-failed
returns-clause-failed g c =
    fails_request (g.S.Store.meaning c.args.store.now) (g.S.Store.meaning c.take_request.new.store)
    (g.D.DeepStore.meaning c.args.deep.now) (g.D.DeepStore.meaning c.take_request.new.deep) c.args.self.now c.args.request.now c.args.now
    c.take_request.new.self c.take_request.result c.take_request.ensures
