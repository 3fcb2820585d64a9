use Rattle.rt_model.proofs.Lawful.{has_rising_runs}
use Rattle.rt_model.proofs.laws.runs_of_entries_only_rise.Goals as goal

pub returns : goal.returns
returns c = has_rising_runs
