use Rattle.rt_model.proofs.IdealStates.{has_every_partition}
use Rattle.rt_model.proofs.laws.every_partition_has_an_entry.Goals as goal

pub returns : goal.returns
returns c = has_every_partition
