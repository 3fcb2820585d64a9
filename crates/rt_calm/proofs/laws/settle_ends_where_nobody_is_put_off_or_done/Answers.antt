use Rattle.rt_calm.proofs.Rounds.{calms_in_run, settles_in_run}
use Rattle.rt_calm.proofs.laws.settle_ends_where_nobody_is_put_off_or_done.Goals as goal

pub returns-clause-calms : goal.returns-clause-calms
returns-clause-calms c = λ setup turns paused w v told is run up unplanned fetches h. calms_in_run setup turns paused w is run up unplanned fetches v told h

pub returns-clause-settles : goal.returns-clause-settles
returns-clause-settles c =
    λ setup turns paused rounds w u settled is run up unplanned fetches few h.
    settles_in_run setup turns paused w is run up unplanned fetches rounds u settled few h
