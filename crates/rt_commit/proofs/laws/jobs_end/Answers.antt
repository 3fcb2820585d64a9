use Rattle.rt_commit.proofs.Ending.{commit_ends, offline_ends}
use Rattle.rt_commit.proofs.laws.jobs_end.Goals as goal

pub returns-clause-commits : goal.returns-clause-commits
returns-clause-commits c = commit_ends

pub returns-clause-offline : goal.returns-clause-offline
returns-clause-offline c = offline_ends
