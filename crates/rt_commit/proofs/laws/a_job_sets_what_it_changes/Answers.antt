use Rattle.rt_commit.proofs.Unchanged.{changes_nothing, counts_set}
use Rattle.rt_commit.proofs.laws.a_job_sets_what_it_changes.Goals as goal

pub returns-clause-changes : goal.returns-clause-changes
returns-clause-changes c = changes_nothing

pub returns-clause-sets : goal.returns-clause-sets
returns-clause-sets c = counts_set
