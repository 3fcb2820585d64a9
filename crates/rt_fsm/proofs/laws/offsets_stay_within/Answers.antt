use Rattle.rt_fsm.proofs.Offsets.{offsets_stay_within}
use Rattle.rt_fsm.proofs.laws.offsets_stay_within.Goals as goal

pub returns : goal.returns
returns c = offsets_stay_within
