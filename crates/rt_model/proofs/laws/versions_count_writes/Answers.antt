use Rattle.rt_model.proofs.Lawful.{versions_count_writes}
use Rattle.rt_model.proofs.laws.versions_count_writes.Goals as goal

pub returns : goal.returns
returns c = versions_count_writes
