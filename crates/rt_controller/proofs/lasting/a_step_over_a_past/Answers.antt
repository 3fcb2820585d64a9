use Rattle.rt_controller.proofs.CallsOver.{works_over}
use Rattle.rt_controller.proofs.lasting.a_step_over_a_past.Goals as goal

pub returns : goal.returns
returns c = works_over
