use Rattle.rt_server.proofs.OwnAsks.{asks_for_own, asks_own}
use Rattle.rt_server.proofs.own_laws.a_server_asks_what_is_its_own.Goals as goal

pub returns-clause-asks : goal.returns-clause-asks
returns-clause-asks c = λ setup view old new p q request k of h. asks_own setup view old new p q request k of h

pub returns-clause-extends : goal.returns-clause-extends
returns-clause-extends c = λ setup view old new p q request millis k of h. asks_for_own setup view old new p q request k of millis h
