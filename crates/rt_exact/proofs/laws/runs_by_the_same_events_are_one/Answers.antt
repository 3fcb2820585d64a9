use Rattle.rt_exact.proofs.Runs.{runs_one}
use Rattle.rt_exact.proofs.laws.runs_by_the_same_events_are_one.Goals as goal

pub returns : goal.returns
returns c = runs_one
