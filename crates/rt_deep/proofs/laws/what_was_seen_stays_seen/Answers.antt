use Rattle.rt_deep.proofs.Seeing.{get_grows, puts_grow}
use Rattle.rt_deep.proofs.laws.what_was_seen_stays_seen.Goals as goal

pub returns : goal.returns
returns c = record { gets = get_grows; puts = puts_grow }
