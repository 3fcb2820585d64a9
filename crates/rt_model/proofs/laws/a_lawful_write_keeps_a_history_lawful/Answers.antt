use Rattle.rt_model.proofs.Lawful.{step_is_lawful}
use Rattle.rt_model.proofs.laws.a_lawful_write_keeps_a_history_lawful.Goals as goal

pub returns : goal.returns
returns c = step_is_lawful
