use Rattle.rt_live_names.specs.Fronts.{broker_caller}
use Rattle.rt_live_nodes.specs.Founding.{IsCaller}
use Rattle.rt_live_nodes.proofs.Placing.{first_is}
use Rattle.rt_live_nodes.proofs.seating.seat_broker.Goals as goal

pub make-requires-clause-caller : goal.make-requires-clause-caller
make-requires-clause-caller g c =
    let number = broker_caller g.K.Cluster.names.setup in
    first_is (IsCaller g.J.Naming.names) number c.args.callers _ _ c.requires.callers c.next_caller-caller.ensures
