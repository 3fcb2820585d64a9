use Rattle.rt_play.proofs.PausedRuns.{front_holds, front_paused}
use Rattle.rt_play.proofs.pausing.a_script_is_paused_from_pause_to_resume.Goals as goal

pub returns-clause-paused : goal.returns-clause-paused
returns-clause-paused c = front_paused

pub returns-clause-held : goal.returns-clause-held
returns-clause-held c = front_holds
