use Rattle.rt_safety.proofs.AbsentNodes.{delivers_none, jobs_none}
use Rattle.rt_safety.proofs.laws_of_absence.an_absent_node_alone_fails_by_4.Goals as goal

pub returns-clause-requests : goal.returns-clause-requests
returns-clause-requests c = delivers_none

pub returns-clause-jobs : goal.returns-clause-jobs
returns-clause-jobs c = jobs_none
