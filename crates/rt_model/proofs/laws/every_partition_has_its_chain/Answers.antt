use Rattle.rt_model.proofs.Lawful.{has_chains}
use Rattle.rt_model.proofs.laws.every_partition_has_its_chain.Goals as goal

pub returns : goal.returns
returns c = has_chains
