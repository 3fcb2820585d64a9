use Rattle.rt_replica.proofs.KeepsOwn.{request_own, extend_own, waits_own}
use Rattle.rt_replica.proofs.ReadBack.{request_back}
use Rattle.rt_replica.proofs.own_laws.a_replica_asks_what_is_its_own.Goals as goal

pub returns-clause-requests : goal.returns-clause-requests
returns-clause-requests c = λ setup view i incarnation r number q is k mine now e. request_own setup view i incarnation r is k number mine now q e

pub returns-clause-extends : goal.returns-clause-extends
returns-clause-extends c = λ setup view i incarnation r number millis is k mine now e. extend_own setup view i incarnation r is k number mine now millis e

pub returns-clause-waits : goal.returns-clause-waits
returns-clause-waits c = waits_own

pub returns-clause-right : goal.returns-clause-right
returns-clause-right c = λ setup past q k o lived small. request_back setup past k q o lived small
