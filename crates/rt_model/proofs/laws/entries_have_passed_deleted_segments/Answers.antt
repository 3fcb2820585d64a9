use Rattle.rt_model.proofs.Lawful.{has_passed_deletions}
use Rattle.rt_model.proofs.laws.entries_have_passed_deleted_segments.Goals as goal

pub returns : goal.returns
returns c = has_passed_deletions
