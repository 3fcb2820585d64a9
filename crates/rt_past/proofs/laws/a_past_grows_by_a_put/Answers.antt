use Rattle.rt_past.proofs.Ways.{past_put}
use Rattle.rt_past.proofs.laws.a_past_grows_by_a_put.Goals as goal

pub returns : goal.returns
returns c = past_put
