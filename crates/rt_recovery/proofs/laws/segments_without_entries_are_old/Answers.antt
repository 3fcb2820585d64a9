use Rattle.rt_recovery.proofs.Leaving.{runs_leave}
use Rattle.rt_recovery.proofs.laws.segments_without_entries_are_old.Goals as goal

pub returns : goal.returns
returns c = λ setup turns w is run. runs_leave setup turns w is run
