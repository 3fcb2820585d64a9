use Rattle.rt_unrefused.proofs.Querying.{query_refused}
use Rattle.rt_unrefused.proofs.laws.a_query_is_refused_by_a_limit_alone.Goals as goal

pub returns : goal.returns
returns c = query_refused
