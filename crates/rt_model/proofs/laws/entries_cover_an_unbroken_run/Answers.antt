use Rattle.rt_model.proofs.Lawful.{has_unbroken_runs}
use Rattle.rt_model.proofs.laws.entries_cover_an_unbroken_run.Goals as goal

pub returns : goal.returns
returns c = has_unbroken_runs
