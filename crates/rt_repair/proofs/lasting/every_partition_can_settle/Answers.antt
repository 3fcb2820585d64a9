use Rattle.rt_repair.proofs.Settling.{can_settle}
use Rattle.rt_repair.proofs.lasting.every_partition_can_settle.Goals as goal

pub returns : goal.returns
returns c = can_settle
