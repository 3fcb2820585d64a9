use Rattle.rt_past.proofs.Ways.{past_files}
use Rattle.rt_past.proofs.laws.a_past_grows_by_files.Goals as goal

pub returns : goal.returns
returns c = past_files
