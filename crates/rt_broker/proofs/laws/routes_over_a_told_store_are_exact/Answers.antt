use Rattle.rt_broker.proofs.Telling.{routed_now, failed_now, ran_out_now}
use Rattle.rt_broker.proofs.laws.routes_over_a_told_store_are_exact.Goals as goal

pub returns : goal.returns
returns c = record { routed = routed_now; failed = failed_now; out = ran_out_now }
