use Rattle.rt_broker.proofs.Answered.{lawfully_served}
use Rattle.rt_broker.proofs.own_laws.what_was_asked_is_served_over_a_lawful_history.Goals as goal

pub returns : goal.returns
returns c = lawfully_served
