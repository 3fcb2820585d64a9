use Rattle.rt_commit.proofs.OwnDone.{succeeds_own}
use Rattle.rt_commit.proofs.Replying.{replies_first, commit_replies, offline_replies}
use Rattle.rt_commit.proofs.laws.a_job_replies_by_its_first_failure.Goals as goal

pub returns-clause-step : goal.returns-clause-step
returns-clause-step c = replies_first

pub returns-clause-commits : goal.returns-clause-commits
returns-clause-commits c = commit_replies

pub returns-clause-offline : goal.returns-clause-offline
returns-clause-offline c = offline_replies

pub returns-clause-own : goal.returns-clause-own
returns-clause-own c = succeeds_own
