use Rattle.rt_past.proofs.Ways.{past_called}
use Rattle.rt_past.proofs.laws.a_past_grows_by_a_write_call.Goals as goal

pub returns : goal.returns
returns c = past_called
