use Rattle.rt_recovery.proofs.Healing.{heals_rests, heals_settled, heals_whole}
use Rattle.rt_recovery.proofs.laws.every_cluster_heals.Goals as goal

pub returns-clause-settles : goal.returns-clause-settles
returns-clause-settles c =
    λ setup turns retirements lines rounds w u settled is run unplanned fetches millis many h few.
    heals_settled setup turns retirements lines rounds w u settled is run unplanned fetches millis many h few

pub returns-clause-rests : goal.returns-clause-rests
returns-clause-rests c =
    λ setup turns retirements lines rounds w u settled is run unplanned fetches millis many h few.
    heals_rests setup turns retirements lines rounds w u settled is run unplanned fetches millis many h few

pub returns-clause-whole : goal.returns-clause-whole
returns-clause-whole c =
    λ setup turns retirements lines rounds w u settled is run unplanned fetches millis many h few.
    heals_whole setup turns retirements lines rounds w u settled is run unplanned fetches millis many h few
