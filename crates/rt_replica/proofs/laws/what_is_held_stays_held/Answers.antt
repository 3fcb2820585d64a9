use Rattle.rt_replica.proofs.Holding.{held_grows, batch_held, replied_held, built_held, learned_held}
use Rattle.rt_replica.proofs.Others.{started_held, forced_held, stopped_held}
use Rattle.rt_replica.proofs.laws.what_is_held_stays_held.Goals as goal

pub returns-clause-started : goal.returns-clause-started
returns-clause-started c = started_held

pub returns-clause-grows : goal.returns-clause-grows
returns-clause-grows c = held_grows

pub returns-clause-consumes : goal.returns-clause-consumes
returns-clause-consumes c = batch_held

pub returns-clause-forced : goal.returns-clause-forced
returns-clause-forced c = forced_held

pub returns-clause-stopped : goal.returns-clause-stopped
returns-clause-stopped c = stopped_held

pub returns-clause-replied : goal.returns-clause-replied
returns-clause-replied c = replied_held

pub returns-clause-built : goal.returns-clause-built
returns-clause-built c = built_held

pub returns-clause-learned : goal.returns-clause-learned
returns-clause-learned c = learned_held
