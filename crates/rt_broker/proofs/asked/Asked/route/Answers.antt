use Rattle.rt_broker.proofs.Lasting.{route_kept}
use Rattle.rt_broker.proofs.asked.Asked.route.Goals as goal

pub returns-clause-asked : goal.returns-clause-asked
returns-clause-asked g c =
    route_kept (g.S.Store.meaning c.args.store.now) (g.S.Store.meaning c.take_route.new.store) c.args.self.now c.args.partition
    c.take_route.new.self c.take_route.result c.take_route.ensures
