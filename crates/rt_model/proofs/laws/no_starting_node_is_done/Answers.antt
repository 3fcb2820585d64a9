use Rattle.rt_model.proofs.Starts.{start_undone}
use Rattle.rt_model.proofs.laws.no_starting_node_is_done.Goals as goal

pub returns : goal.returns
returns c = start_undone
