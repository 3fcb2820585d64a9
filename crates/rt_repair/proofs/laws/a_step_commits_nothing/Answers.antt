use Rattle.rt_repair.proofs.Owning.{repair_own, retire_own, out_own}
use Rattle.rt_repair.proofs.laws.a_step_commits_nothing.Goals as goal

pub returns : goal.returns
returns c = record { repairs = repair_own; retires = retire_own; out = out_own }
