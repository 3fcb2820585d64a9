use Rattle.rt_controller.proofs.Lasts.{controller_lasts}
use Rattle.rt_controller.proofs.lasting.what_lasts_stays_true.Goals as goal

pub returns : goal.returns
returns c = controller_lasts
