use Rattle.rt_calm.proofs.Settled.{settles_all}
use Rattle.rt_calm.proofs.laws.settle_ends_where_nobody_is_put_off.Goals as goal

pub returns : goal.returns
returns c =
    λ setup turns paused rounds w u settled is run up unplanned fetches few h.
    settles_all setup turns paused rounds w u settled is run up unplanned fetches few h
