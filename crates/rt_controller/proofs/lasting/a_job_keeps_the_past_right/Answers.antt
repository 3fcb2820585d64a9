use Rattle.rt_controller.proofs.OverSteps.{work_kept, work_past, work_replied}
use Rattle.rt_controller.proofs.lasting.a_job_keeps_the_past_right.Goals as goal

pub returns : goal.returns
returns c = record { past = work_past; controller = work_kept; reply = work_replied }
