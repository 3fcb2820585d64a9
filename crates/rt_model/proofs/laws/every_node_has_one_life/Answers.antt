use Rattle.rt_model.proofs.Lawful.{has_lives}
use Rattle.rt_model.proofs.laws.every_node_has_one_life.Goals as goal

pub returns : goal.returns
returns c = has_lives
