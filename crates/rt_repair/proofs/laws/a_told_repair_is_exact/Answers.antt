use Rattle.rt_repair.proofs.Telling.{told_repair, out_alone}
use Rattle.rt_repair.proofs.laws.a_told_repair_is_exact.Goals as goal

pub returns : goal.returns
returns c = record { exact = told_repair; out = out_alone }
