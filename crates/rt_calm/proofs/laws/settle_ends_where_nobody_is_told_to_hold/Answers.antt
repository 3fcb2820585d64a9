use Rattle.rt_calm.proofs.Settled.{settles_unless_told, settles_where_led}
use Rattle.rt_calm.proofs.laws.settle_ends_where_nobody_is_told_to_hold.Goals as goal

pub returns-clause-told : goal.returns-clause-told
returns-clause-told c =
    λ setup turns paused rounds w u settled is run up unplanned fetches few h.
    settles_unless_told setup turns paused rounds w u settled is run up unplanned fetches few h

pub returns-clause-led : goal.returns-clause-led
returns-clause-led c =
    λ setup turns paused rounds w u settled is run up unplanned fetches leading few h.
    settles_where_led setup turns paused rounds w u settled is run up unplanned fetches leading few h
