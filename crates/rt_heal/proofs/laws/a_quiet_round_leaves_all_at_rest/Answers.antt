use Rattle.rt_heal.proofs.Quiet.{round_quiet}
use Rattle.rt_heal.proofs.laws.a_quiet_round_leaves_all_at_rest.Goals as goal

pub returns : goal.returns
returns c = round_quiet
