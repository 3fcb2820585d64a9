use Rattle.rt_play.proofs.GeneratedRefusals.{generated_ends}
use Rattle.rt_play.proofs.some_report.a_generated_run_is_never_refused.Goals as goal

pub returns : goal.returns
returns c = generated_ends
