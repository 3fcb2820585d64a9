use Rattle.rt_heal.proofs.Dropped.{runs_told}
use Rattle.rt_safety.proofs.Later.{runs_are_safe}
use Rattle.rt_recovery.proofs.GoingOn.{exchange_goes_on}
use Rattle.rt_recovery.proofs.Whole.{often_rests, once_rests}
use Rattle.rt_recovery.proofs.laws.what_was_started_anew_is_answered_whole.Goals as goal

pub returns-clause-exchanges : goal.returns-clause-exchanges
returns-clause-exchanges c =
    λ setup turns i s busy w v told is run by_rows leading none on h.
    exchange_goes_on i s busy w v told (record { safe = runs_are_safe setup turns w is run; told = runs_told setup turns w is run }) by_rows leading none on h

pub returns-clause-once : goal.returns-clause-once
returns-clause-once c =
    λ setup turns rounds w u settled is run fresh unplanned fetches leading millis few h.
    once_rests setup turns rounds w u settled is run fresh unplanned fetches leading millis few h

pub returns-clause-often : goal.returns-clause-often
returns-clause-often c =
    λ setup turns rounds times w u settled is run fresh unplanned fetches leading millis few h.
    often_rests setup turns rounds w u settled is run fresh unplanned fetches leading millis times few h
