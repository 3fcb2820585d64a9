use Rattle.rt_server.proofs.LastingGrows.{server_grows}
use Rattle.rt_server.proofs.LastingStarts.{fresh_is_of, fresh_over}
use Rattle.rt_server.proofs.lasting.what_lasts_of_a_server_stays_true.Goals as goal

pub returns-clause-begins : goal.returns-clause-begins
returns-clause-begins c = fresh_over

pub returns-clause-fresh : goal.returns-clause-fresh
returns-clause-fresh c = fresh_is_of

pub returns-clause-grows : goal.returns-clause-grows
returns-clause-grows c = server_grows
