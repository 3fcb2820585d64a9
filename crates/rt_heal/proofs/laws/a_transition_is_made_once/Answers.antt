use Rattle.rt_heal.proofs.Moving.{moves_once}
use Rattle.rt_heal.proofs.laws.a_transition_is_made_once.Goals as goal

pub returns : goal.returns
returns c = moves_once
