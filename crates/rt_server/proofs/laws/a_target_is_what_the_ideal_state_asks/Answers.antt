use Rattle.rt_server.proofs.Listed.{targets_tell}
use Rattle.rt_server.proofs.laws.a_target_is_what_the_ideal_state_asks.Goals as goal

pub returns : goal.returns
returns c = λ i es entries p q. targets_tell i es p q
