use Rattle.std.proofs.Common.{arith}
use Rattle.rt_live_names.specs.Fronts.{repairer_caller}
use Rattle.rt_live_nodes.specs.Founding.{IsCaller}
use Rattle.rt_live_nodes.proofs.Placing.{first_is, rest_at}
use Rattle.rt_live_nodes.proofs.seating.seat_repairer.Goals as goal

pub make-requires-clause-caller : goal.make-requires-clause-caller
make-requires-clause-caller g c =
    let number = repairer_caller g.K.Cluster.names.setup in
    first_is (IsCaller g.J.Naming.names) number _ _ _ c.requires.callers c.next_caller-caller.ensures

pub returns : goal.returns
returns g c =
    let number = repairer_caller g.K.Cluster.names.setup in
    record {
      callers = rest_at (IsCaller g.J.Naming.names) number _ _ _ _ (omega arith) c.requires.callers
          c.next_caller-caller.ensures;
    }
