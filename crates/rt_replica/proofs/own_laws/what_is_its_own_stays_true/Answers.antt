use Rattle.rt_replica.proofs.KeepsOwn.{own_within, own_request_within}
use Rattle.rt_replica.proofs.own_laws.what_is_its_own_stays_true.Goals as goal

pub returns-clause-own : goal.returns-clause-own
returns-clause-own c = λ setup a b i incarnation r g k. own_within setup a b g i incarnation r k

pub returns-clause-asked : goal.returns-clause-asked
returns-clause-asked c = λ setup a b q g k. own_request_within setup a b g q k
