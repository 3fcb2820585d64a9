use Rattle.rt_repair.proofs.Alone.{past_settles}
use Rattle.rt_repair.proofs.lasting.every_partition_settles_alone.Goals as goal

pub returns : goal.returns
returns c = past_settles
