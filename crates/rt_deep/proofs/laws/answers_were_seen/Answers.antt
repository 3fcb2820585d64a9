use Rattle.rt_deep.proofs.Seeing.{get_seen, absent_seen, put_seen}
use Rattle.rt_deep.proofs.laws.answers_were_seen.Goals as goal

pub returns : goal.returns
returns c = record { gets = get_seen; absent = absent_seen; puts = put_seen }
