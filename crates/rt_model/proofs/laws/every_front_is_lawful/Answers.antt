use Rattle.rt_model.proofs.Lawful.{prefix_is_lawful}
use Rattle.rt_model.proofs.laws.every_front_is_lawful.Goals as goal

pub returns : goal.returns
returns c = prefix_is_lawful
