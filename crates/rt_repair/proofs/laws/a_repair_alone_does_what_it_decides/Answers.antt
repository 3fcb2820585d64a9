use Rattle.rt_repair.proofs.Alone.{repairs_alone}
use Rattle.rt_repair.proofs.laws.a_repair_alone_does_what_it_decides.Goals as goal

pub returns : goal.returns
returns c = repairs_alone
