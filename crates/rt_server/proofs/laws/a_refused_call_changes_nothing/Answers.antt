use Rattle.rt_server.proofs.Unchanged.{restarts_stay, sees_stay, transits_stay}
use Rattle.rt_server.proofs.laws.a_refused_call_changes_nothing.Goals as goal

pub returns-clause-sees : goal.returns-clause-sees
returns-clause-sees c = sees_stay

pub returns-clause-transits : goal.returns-clause-transits
returns-clause-transits c = transits_stay

pub returns-clause-restarts : goal.returns-clause-restarts
returns-clause-restarts c = restarts_stay
