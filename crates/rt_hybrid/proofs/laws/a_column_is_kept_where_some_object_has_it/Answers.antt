use Rattle.rt_hybrid.proofs.Keeping.{are_kept}
use Rattle.rt_hybrid.proofs.laws.a_column_is_kept_where_some_object_has_it.Goals as goal

pub returns : goal.returns
returns c = are_kept
