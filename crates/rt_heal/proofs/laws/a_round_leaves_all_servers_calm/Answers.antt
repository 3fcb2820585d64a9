use Rattle.rt_heal.proofs.Calming.{round_calms, round_most, settle_ends_in_run}
use Rattle.rt_heal.proofs.laws.a_round_leaves_all_servers_calm.Goals as goal

pub returns-clause-calms : goal.returns-clause-calms
returns-clause-calms c = round_calms

pub returns-clause-leaves : goal.returns-clause-leaves
returns-clause-leaves c = round_most

pub returns-clause-settles : goal.returns-clause-settles
returns-clause-settles c =
    λ setup turns paused rounds w u settled is run up unplanned fetches few h.
    settle_ends_in_run setup turns paused w settled is run up unplanned fetches rounds u few h
