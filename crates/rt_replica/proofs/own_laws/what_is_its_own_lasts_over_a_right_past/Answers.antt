use Rattle.rt_replica.proofs.ReadBack.{replica_back, replica_forget}
use Rattle.rt_replica.proofs.own_laws.what_is_its_own_lasts_over_a_right_past.Goals as goal

pub returns-clause-forget : goal.returns-clause-forget
returns-clause-forget c = replica_forget

pub returns-clause-back : goal.returns-clause-back
returns-clause-back c = λ setup past i incarnation r k o. replica_back setup past k i incarnation r o
