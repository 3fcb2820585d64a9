use Rattle.rt_heal.proofs.Missing.{misses_nothing}
use Rattle.rt_heal.proofs.Ranges.{names_all}
use Rattle.rt_heal.proofs.laws.at_rest_an_answer_is_whole.Goals as goal

pub returns-clause-missing : goal.returns-clause-missing
returns-clause-missing c = misses_nothing

pub returns-clause-ranges : goal.returns-clause-ranges
returns-clause-ranges c = names_all
