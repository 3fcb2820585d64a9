use Rattle.rt_exact.proofs.Steps.{one_outcome, one_world}
use Rattle.rt_exact.proofs.laws.an_event_has_one_outcome.Goals as goal

pub returns-clause-told : goal.returns-clause-told
returns-clause-told c = λ w e x y a b s h k. (one_outcome w e x y a b s h k).0

pub returns-clause-shows : goal.returns-clause-shows
returns-clause-shows c = λ w e x y a b s h k. (one_outcome w e x y a b s h k).1

pub returns-clause-world : goal.returns-clause-world
returns-clause-world c = one_world
