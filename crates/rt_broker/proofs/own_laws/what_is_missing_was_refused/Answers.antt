use Rattle.rt_broker.proofs.Given.{refused_by}
use Rattle.rt_broker.proofs.own_laws.what_is_missing_was_refused.Goals as goal

pub returns : goal.returns
returns c = refused_by
