use Rattle.rt_views.proofs.RightViews.{latest_right}
use Rattle.rt_views.proofs.laws.a_latest_answer_is_right.Goals as goal

pub returns : goal.returns
returns c = latest_right
