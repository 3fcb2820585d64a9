use Rattle.rt_recovery.proofs.Restarting.{started_anew}
use Rattle.rt_recovery.proofs.laws.what_is_started_anew_is_fresh.Goals as goal

pub returns : goal.returns
returns c = λ setup turns w v is run none h. started_anew setup turns w v is run none h
