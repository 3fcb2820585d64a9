use Rattle.rt_safety.proofs.Produced.{run_asks}
use Rattle.rt_safety.proofs.laws_of_runs.a_run_appends_what_is_produced.Goals as goal

-- src/laws_of_runs.rt:50:1
pub returns-clause-queries : goal.returns-clause-queries
returns-clause-queries c = run_asks
