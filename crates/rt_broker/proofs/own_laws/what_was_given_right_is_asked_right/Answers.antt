use Rattle.rt_broker.proofs.Given.{asked_right}
use Rattle.rt_broker.proofs.own_laws.what_was_given_right_is_asked_right.Goals as goal

pub returns : goal.returns
returns c = asked_right
