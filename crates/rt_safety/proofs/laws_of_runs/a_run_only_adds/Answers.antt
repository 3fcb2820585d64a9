use Rattle.rt_safety.proofs.Later.{committed_stays}
use Rattle.rt_safety.proofs.laws_of_runs.a_run_only_adds.Goals as goal

pub returns-clause-committed : goal.returns-clause-committed
returns-clause-committed c = committed_stays
