use Rattle.rt_past.proofs.Ways.{past_writes}
use Rattle.rt_past.proofs.laws.a_past_grows_by_writes.Goals as goal

pub returns : goal.returns
returns c = past_writes
