use Rattle.rt_model.proofs.IdealStates.{has_ordered_entries}
use Rattle.rt_model.proofs.laws.entries_ascend.Goals as goal

pub returns : goal.returns
returns c = has_ordered_entries
