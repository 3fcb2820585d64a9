use Rattle.rt_repair.proofs.Converging.{converges}
use Rattle.rt_repair.proofs.laws.repairs_converge.Goals as goal

pub returns : goal.returns
returns c = converges
