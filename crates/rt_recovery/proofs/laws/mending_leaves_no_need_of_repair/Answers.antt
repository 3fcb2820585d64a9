use Rattle.rt_recovery.proofs.Mending.{mended}
use Rattle.rt_recovery.proofs.laws.mending_leaves_no_need_of_repair.Goals as goal

pub returns : goal.returns
returns c = λ setup turns w v at is run none h. mended setup turns w v at is run none h
