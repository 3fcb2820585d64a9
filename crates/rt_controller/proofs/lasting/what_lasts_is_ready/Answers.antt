use Rattle.rt_controller.proofs.Lasts.{ready_over}
use Rattle.rt_controller.proofs.lasting.what_lasts_is_ready.Goals as goal

pub returns : goal.returns
returns c = ready_over
