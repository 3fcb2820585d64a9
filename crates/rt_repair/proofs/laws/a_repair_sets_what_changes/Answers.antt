use Rattle.rt_repair.proofs.Adding.{added_same, added_changes}
use Rattle.rt_repair.proofs.laws.a_repair_sets_what_changes.Goals as goal

pub returns : goal.returns
returns c = record { unchanged = added_same; changed = added_changes }
