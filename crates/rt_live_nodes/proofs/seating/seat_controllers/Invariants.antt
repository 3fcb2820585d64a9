use Rattle.rt_live_names.specs.Fronts.{controller_caller}
use Rattle.rt_live_nodes.specs.Founding.{AreFrom, IsCaller, IsControllerPlace}
use Rattle.rt_live_nodes.proofs.seating.seat_controllers.Given as goal

-- the first controllers have their seats, and what is left is for the others
abbrev pub invariant-loop-number : goal.invariant-loop-number
invariant-loop-number g l = record {
  callers : AreFrom (IsCaller g.J.Naming.names) (controller_caller g.K.Cluster.names.setup l.number) l.callers;
  links : AreFrom (IsControllerPlace g.K.Cluster.names) l.number l.links;
}
