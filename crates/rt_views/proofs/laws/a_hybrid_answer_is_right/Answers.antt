use Rattle.rt_views.proofs.RightViews.{hybrid_right}
use Rattle.rt_views.proofs.laws.a_hybrid_answer_is_right.Goals as goal

pub returns : goal.returns
returns c = hybrid_right
