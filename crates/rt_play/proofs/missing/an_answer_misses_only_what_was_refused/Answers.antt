use Rattle.rt_play.proofs.Causes.{run_misses}
use Rattle.rt_play.proofs.missing.an_answer_misses_only_what_was_refused.Goals as goal

pub returns : goal.returns
returns c = run_misses
