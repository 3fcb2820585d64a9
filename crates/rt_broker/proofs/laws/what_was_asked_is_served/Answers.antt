use Rattle.rt_broker.proofs.Answered.{asked_served}
use Rattle.rt_broker.proofs.laws.what_was_asked_is_served.Goals as goal

pub returns : goal.returns
returns c = asked_served
