use Rattle.rt_dryrun.proofs.Keeping.{safe_once, safe_plan, safe_rehearsal}
use Rattle.rt_dryrun.proofs.laws.what_is_rehearsed_keeps_enough.Goals as goal

pub returns : goal.returns
returns c = record { plan = safe_plan; once = safe_once; available = safe_rehearsal }
