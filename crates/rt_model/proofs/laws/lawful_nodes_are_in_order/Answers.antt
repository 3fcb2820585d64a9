use Rattle.rt_model.proofs.Lawful.{nodes_are_in_order}
use Rattle.rt_model.proofs.laws.lawful_nodes_are_in_order.Goals as goal

pub returns : goal.returns
returns c = nodes_are_in_order
