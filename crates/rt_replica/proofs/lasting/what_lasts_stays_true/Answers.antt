use Rattle.rt_replica.proofs.Lasts.{replica_within}
use Rattle.rt_replica.proofs.lasting.what_lasts_stays_true.Goals as goal

pub returns : goal.returns
returns c = replica_within
