use Rattle.rt_views.proofs.RightFound.{none_left_out, taken_is_counted, taken_is_right}
use Rattle.rt_views.proofs.laws.no_view_leaves_out_what_is_served.Goals as goal

pub returns-clause-taken : goal.returns-clause-taken
returns-clause-taken c = none_left_out

pub returns-clause-right : goal.returns-clause-right
returns-clause-right c = taken_is_right

pub returns-clause-counted : goal.returns-clause-counted
returns-clause-counted c = taken_is_counted
