use Rattle.rt_live_names.proofs.Viewing.{is_view}
use Rattle.rt_live_names.proofs.laws.what_a_node_has_is_a_view.Goals as goal

pub returns : goal.returns
returns c = is_view
