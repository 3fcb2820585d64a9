use Rattle.rt_safety.proofs.CommitOpens.{commit_opens}
use Rattle.rt_safety.proofs.laws.a_commit_end_in_time_opens_its_commit.Goals as goal

-- src/laws.rt:40:1
pub returns : goal.returns
returns c = commit_opens
