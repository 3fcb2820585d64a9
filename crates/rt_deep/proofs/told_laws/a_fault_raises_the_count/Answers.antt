use Rattle.rt_deep.proofs.Told.{get_rose, put_rose}
use Rattle.rt_deep.proofs.told_laws.a_fault_raises_the_count.Goals as goal

pub returns : goal.returns
returns c = record { gets = get_rose; puts = put_rose }
