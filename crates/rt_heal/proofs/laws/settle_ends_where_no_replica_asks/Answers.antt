use Rattle.rt_heal.proofs.Following.{round_less_in_runs, settle_ends_in_runs}
use Rattle.rt_heal.proofs.LessRounds.{round_less, settle_ends}
use Rattle.rt_heal.proofs.laws.settle_ends_where_no_replica_asks.Goals as goal

pub returns-clause-rounds : goal.returns-clause-rounds
returns-clause-rounds c = round_less

pub returns-clause-settles : goal.returns-clause-settles
returns-clause-settles c = settle_ends

pub returns-clause-run_rounds : goal.returns-clause-run_rounds
returns-clause-run_rounds c = round_less_in_runs

pub returns-clause-run_settles : goal.returns-clause-run_settles
returns-clause-run_settles c = settle_ends_in_runs
