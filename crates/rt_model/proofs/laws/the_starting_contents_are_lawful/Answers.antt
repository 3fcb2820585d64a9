use Rattle.rt_model.proofs.Lawful.{start_is_lawful}
use Rattle.rt_model.proofs.laws.the_starting_contents_are_lawful.Goals as goal

pub returns : goal.returns
returns c = start_is_lawful
