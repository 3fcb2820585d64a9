use Rattle.rt_views.proofs.RightViews.{views_each_have_plans, views_whole_have_plans}
use Rattle.rt_views.proofs.laws.a_view_has_each_piece_of_its_plan.Goals as goal

pub returns-clause-each : goal.returns-clause-each
returns-clause-each c = views_each_have_plans

pub returns-clause-whole : goal.returns-clause-whole
returns-clause-whole c = views_whole_have_plans
