use Rattle.rt_exact.proofs.Refusals.{kept_never, refused_never}
use Rattle.rt_exact.proofs.laws.no_event_is_refused_and_happens.Goals as goal

pub returns-clause-never : goal.returns-clause-never
returns-clause-never c = refused_never

pub returns-clause-calls : goal.returns-clause-calls
returns-clause-calls c = kept_never
