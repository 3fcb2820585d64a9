use Rattle.rt_server.proofs.Faults.{sees_rose}
use Rattle.rt_server.proofs.laws.a_store_fault_raises_the_count.Goals as goal

pub returns-clause-sees : goal.returns-clause-sees
returns-clause-sees c = sees_rose
