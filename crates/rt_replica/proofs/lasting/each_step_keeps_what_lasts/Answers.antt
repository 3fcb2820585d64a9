use Rattle.std.proofs.Common.{inl, inr}
use Rattle.rt_replica.proofs.KeepsOwn.{built_own, consumed_own, forced_own, learned_own, started_own, stopped_own}
use Rattle.rt_replica.proofs.ReadBack.{replica_back, replica_forget}
use Rattle.rt_replica.proofs.Replied.{replied_own}
use Rattle.rt_replica.proofs.lasting.each_step_keeps_what_lasts.Goals as goal

pub returns-clause-started : goal.returns-clause-started
returns-clause-started c = λ setup past i incarnation p q meta now k within assigned entered begun named.
    replica_back setup past k i incarnation _ (started_own setup past i incarnation p q meta now within (inr (assigned, entered)) begun named)

pub returns-clause-consumed : goal.returns-clause-consumed
returns-clause-consumed c = λ setup past i incarnation r new max now k l e.
    replica_back setup past k i incarnation new (consumed_own setup past i incarnation r (replica_forget setup past i incarnation r l) max now new e)

pub returns-clause-forced : goal.returns-clause-forced
returns-clause-forced c = λ setup past i incarnation r n k l e.
    replica_back setup past k i incarnation _ (forced_own setup past i incarnation r (replica_forget setup past i incarnation r l) n e)

pub returns-clause-stopped : goal.returns-clause-stopped
returns-clause-stopped c = λ setup past i incarnation r n k l e.
    replica_back setup past k i incarnation _ (stopped_own setup past i incarnation r (replica_forget setup past i incarnation r l) n e)

pub returns-clause-built : goal.returns-clause-built
returns-clause-built c = λ setup past i incarnation r file k l b.
    replica_back setup past k i incarnation _ (built_own setup past i incarnation r (replica_forget setup past i incarnation r l) file b)

pub returns-clause-learned : goal.returns-clause-learned
returns-clause-learned c = λ setup past i incarnation r done end k l w.
    replica_back setup past k i incarnation _ (learned_own setup past i incarnation r (replica_forget setup past i incarnation r l) done end (inl w))

pub returns-clause-replied : goal.returns-clause-replied
returns-clause-replied c = λ setup past i incarnation r reply is k taken of l.
    replica_back setup past k i incarnation _ (replied_own setup past i incarnation r (replica_forget setup past i incarnation r l) reply taken of is)
