use Rattle.rt_model.proofs.Retiring.{deletes_lawfully}
use Rattle.rt_model.proofs.laws.a_retirement_deletes_lawfully.Goals as goal

pub returns : goal.returns
returns c = deletes_lawfully
