use Rattle.rt_model.proofs.Lawful.{has_deletions}
use Rattle.rt_model.proofs.laws.deletions_go_upwards.Goals as goal

pub returns : goal.returns
returns c = has_deletions
