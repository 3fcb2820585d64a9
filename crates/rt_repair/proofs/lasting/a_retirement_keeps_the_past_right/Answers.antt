use Rattle.rt_repair.proofs.RightRetire.{retire_past, retire_kept}
use Rattle.rt_repair.proofs.lasting.a_retirement_keeps_the_past_right.Goals as goal

pub returns : goal.returns
returns c = record { past = retire_past; retire = retire_kept }
