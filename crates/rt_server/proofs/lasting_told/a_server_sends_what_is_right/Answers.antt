use Rattle.rt_server.proofs.LastingTold.{asks_for_right, asks_right}
use Rattle.rt_server.proofs.lasting_told.a_server_sends_what_is_right.Goals as goal

pub returns-clause-asks : goal.returns-clause-asks
returns-clause-asks c = asks_right

pub returns-clause-asks_for : goal.returns-clause-asks_for
returns-clause-asks_for c = λ setup past old new p q request millis right k drawn few of h. asks_for_right setup past old new p q request right k drawn few of millis h
