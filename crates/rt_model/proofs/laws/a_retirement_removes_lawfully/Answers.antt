use Rattle.rt_model.proofs.Retiring.{removes_lawfully}
use Rattle.rt_model.proofs.laws.a_retirement_removes_lawfully.Goals as goal

pub returns : goal.returns
returns c = removes_lawfully
