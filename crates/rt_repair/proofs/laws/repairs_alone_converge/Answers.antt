use Rattle.rt_repair.proofs.Alone.{settles_alone}
use Rattle.rt_repair.proofs.laws.repairs_alone_converge.Goals as goal

pub returns : goal.returns
returns c = settles_alone
