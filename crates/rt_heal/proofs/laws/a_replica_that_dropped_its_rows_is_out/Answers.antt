use Rattle.rt_heal.proofs.Dropped.{dropped_out, runs_told, stays_out}
use Rattle.rt_heal.proofs.Undropped.{none_dropped}
use Rattle.rt_safety.proofs.Later.{runs_are_safe}
use Rattle.rt_heal.proofs.laws.a_replica_that_dropped_its_rows_is_out.Goals as goal

pub returns-clause-replicas : goal.returns-clause-replicas
returns-clause-replicas c = λ setup turns w is run. dropped_out w (runs_told setup turns w is run)

pub returns-clause-lasts : goal.returns-clause-lasts
returns-clause-lasts c = stays_out

pub returns-clause-rests : goal.returns-clause-rests
returns-clause-rests c =
    λ setup turns w is run rest p within.
    none_dropped w (runs_are_safe setup turns w is run) rest (dropped_out w (runs_told setup turns w is run)) p within
