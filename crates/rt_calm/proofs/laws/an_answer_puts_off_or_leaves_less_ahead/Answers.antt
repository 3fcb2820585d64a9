use Rattle.rt_calm.proofs.Rounds.{exchange_in_run, spends_in_run, writes_in_run}
use Rattle.rt_calm.proofs.laws.an_answer_puts_off_or_leaves_less_ahead.Goals as goal

pub returns-clause-less : goal.returns-clause-less
returns-clause-less c = λ setup turns w v instance segment is run. exchange_in_run setup turns w v is run instance segment

pub returns-clause-writes : goal.returns-clause-writes
returns-clause-writes c = λ setup turns w v instance segment told is run. writes_in_run setup turns w v is run instance segment told

pub returns-clause-spends : goal.returns-clause-spends
returns-clause-spends c = λ setup turns w v instance segment told is run. spends_in_run setup turns w v is run instance segment told
