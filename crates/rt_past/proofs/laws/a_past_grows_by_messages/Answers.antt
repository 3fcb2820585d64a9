use Rattle.rt_past.proofs.Ways.{past_logs}
use Rattle.rt_past.proofs.laws.a_past_grows_by_messages.Goals as goal

pub returns : goal.returns
returns c = past_logs
