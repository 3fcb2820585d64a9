use Rattle.rt_controller.proofs.CallsOver.{handles_over}
use Rattle.rt_controller.proofs.lasting.a_request_over_a_past.Goals as goal

pub returns : goal.returns
returns c = handles_over
