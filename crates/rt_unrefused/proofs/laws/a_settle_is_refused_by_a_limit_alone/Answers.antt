use Rattle.rt_unrefused.proofs.Settling.{settle_refused}
use Rattle.rt_unrefused.proofs.laws.a_settle_is_refused_by_a_limit_alone.Goals as goal

pub returns : goal.returns
returns c = settle_refused
