use Rattle.rt_replica.proofs.Due.{consumes_due, builds_due, asks_due}
use Rattle.rt_replica.proofs.laws.what_is_due_can_be_done.Goals as goal

pub returns-clause-consumes : goal.returns-clause-consumes
returns-clause-consumes c = λ r size now max log. consumes_due r size now max log

pub returns-clause-builds : goal.returns-clause-builds
returns-clause-builds c = builds_due

pub returns-clause-asks : goal.returns-clause-asks
returns-clause-asks c = asks_due
