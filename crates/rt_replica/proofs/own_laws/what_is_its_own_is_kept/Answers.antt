use Rattle.rt_replica.proofs.KeepsOwn.{started_own, consumed_own, forced_own, stopped_own, built_own, learned_own}
use Rattle.rt_replica.proofs.Replied.{replied_own}
use Rattle.rt_replica.proofs.own_laws.what_is_its_own_is_kept.Goals as goal

pub returns-clause-started : goal.returns-clause-started
returns-clause-started c = started_own

pub returns-clause-consumed : goal.returns-clause-consumed
returns-clause-consumed c = λ setup view i incarnation r new max now k e. consumed_own setup view i incarnation r k max now new e

pub returns-clause-forced : goal.returns-clause-forced
returns-clause-forced c = λ setup view i incarnation r n k e. forced_own setup view i incarnation r k n e

pub returns-clause-stopped : goal.returns-clause-stopped
returns-clause-stopped c = λ setup view i incarnation r n k e. stopped_own setup view i incarnation r k n e

pub returns-clause-built : goal.returns-clause-built
returns-clause-built c = λ setup view i incarnation r file k b. built_own setup view i incarnation r k file b

pub returns-clause-learned : goal.returns-clause-learned
returns-clause-learned c = λ setup view i incarnation r done end k w. learned_own setup view i incarnation r k done end w

pub returns-clause-replied : goal.returns-clause-replied
returns-clause-replied c = λ setup view i incarnation r reply k taken of is. replied_own setup view i incarnation r k reply taken of is
