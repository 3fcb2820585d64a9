use Rattle.rt_heal.proofs.Whole.{after_quiet, answered_whole}
use Rattle.rt_heal.proofs.laws.at_rest_a_query_is_answered_whole.Goals as goal

pub returns-clause-resting : goal.returns-clause-resting
returns-clause-resting c = answered_whole

pub returns-clause-settled : goal.returns-clause-settled
returns-clause-settled c = after_quiet
