use Rattle.rt_calm.proofs.Rounds.{replicas_in_run, round_in_run}
use Rattle.rt_calm.proofs.laws.replicas_are_put_off_or_leave_less_ahead.Goals as goal

pub returns-clause-replicas : goal.returns-clause-replicas
returns-clause-replicas c = λ setup turns paused w v is run. replicas_in_run setup turns w v is run paused

pub returns-clause-rounds : goal.returns-clause-rounds
returns-clause-rounds c = λ setup turns paused w v is run. round_in_run setup turns w v is run paused
