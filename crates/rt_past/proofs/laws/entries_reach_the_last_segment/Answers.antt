use Rattle.rt_past.proofs.Reaching.{reaches_last}
use Rattle.rt_past.proofs.laws.entries_reach_the_last_segment.Goals as goal

pub returns : goal.returns
returns c = reaches_last
