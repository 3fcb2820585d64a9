use Rattle.rt_past.specs.IsPast.{fresh_past}
use Rattle.rt_server.specs.Fresh.{fresh}
use Rattle.rt_server.proofs.LastingStarts.{fresh_over}
use Rattle.rt_server.proofs.OwnGrows.{own_server_grows}
use Rattle.rt_server.proofs.ReadBack.{server_forget}
use Rattle.rt_server.proofs.own_laws.what_is_a_servers_own_stays_true.Goals as goal

pub returns-clause-begins : goal.returns-clause-begins
returns-clause-begins c = λ setup i is lt. server_forget setup (fresh_past setup) (fresh setup i) (fresh_over setup i is lt)

pub returns-clause-grows : goal.returns-clause-grows
returns-clause-grows c = λ setup a b s g k. own_server_grows setup a b g s k
