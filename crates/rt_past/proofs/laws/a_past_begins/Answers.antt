use Rattle.rt_past.proofs.Starts.{past_starts}
use Rattle.rt_past.proofs.laws.a_past_begins.Goals as goal

pub returns : goal.returns
returns c = past_starts
