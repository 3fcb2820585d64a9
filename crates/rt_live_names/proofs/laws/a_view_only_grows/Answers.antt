use Rattle.rt_live_names.proofs.Viewing.{view_grows}
use Rattle.rt_live_names.proofs.laws.a_view_only_grows.Goals as goal

pub returns : goal.returns
returns c = view_grows
