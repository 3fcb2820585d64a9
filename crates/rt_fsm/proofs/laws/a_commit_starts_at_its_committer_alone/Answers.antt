use Rattle.rt_fsm.proofs.Alone.{starts_alone}
use Rattle.rt_fsm.proofs.laws.a_commit_starts_at_its_committer_alone.Goals as goal

pub returns : goal.returns
returns c = starts_alone
