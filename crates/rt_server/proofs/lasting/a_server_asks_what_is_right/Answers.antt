use Rattle.rt_server.proofs.LastingAsks.{asks_for_refused, asks_refused}
use Rattle.rt_server.proofs.LastingCalls.{asks_for_over, asks_over}
use Rattle.rt_server.proofs.LastingNeeds.{asked_grows}
use Rattle.rt_server.proofs.lasting.a_server_asks_what_is_right.Goals as goal

pub returns-clause-asks : goal.returns-clause-asks
returns-clause-asks c = λ setup past old new p q request right k drawn small of h. asks_over setup past right old k new p q request drawn small of h

pub returns-clause-extends : goal.returns-clause-extends
returns-clause-extends c = λ setup past old new p q request millis right k drawn small of h. asks_for_over setup past right old k new p q request drawn small of millis h

pub returns-clause-sent : goal.returns-clause-sent
returns-clause-sent c = asked_grows

pub returns-clause-asks_nothing : goal.returns-clause-asks_nothing
returns-clause-asks_nothing c = asks_refused

pub returns-clause-extends_nothing : goal.returns-clause-extends_nothing
returns-clause-extends_nothing c = asks_for_refused
