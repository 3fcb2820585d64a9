use Rattle.rt_server.proofs.ReadBack.{server_back, server_forget}
use Rattle.rt_server.proofs.own_laws.what_is_a_servers_own_lasts_over_a_right_past.Goals as goal

pub returns-clause-forget : goal.returns-clause-forget
returns-clause-forget c = server_forget

pub returns-clause-back : goal.returns-clause-back
returns-clause-back c = λ setup past s k o exists counted. server_back setup past k s o exists counted
