use Rattle.rt_deep.proofs.Told.{put_on, get_on, absent_on}
use Rattle.rt_deep.proofs.told_laws.what_told_answers_show.Goals as goal

pub returns : goal.returns
returns c = record { puts = put_on; gets = get_on; absent = absent_on }
