use Rattle.rt_play.proofs.ScriptRuns.{front_leads}
use Rattle.rt_play.proofs.laws.a_script_is_a_run.Goals as goal

pub returns : goal.returns
returns c = front_leads
