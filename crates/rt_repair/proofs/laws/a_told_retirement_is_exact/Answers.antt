use Rattle.rt_repair.proofs.Telling.{told_retire}
use Rattle.rt_repair.proofs.laws.a_told_retirement_is_exact.Goals as goal

pub returns : goal.returns
returns c = told_retire
