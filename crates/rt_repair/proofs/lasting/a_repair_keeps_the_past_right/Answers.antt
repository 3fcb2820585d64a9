use Rattle.rt_repair.proofs.RightRepair.{repair_past, repair_kept}
use Rattle.rt_repair.proofs.lasting.a_repair_keeps_the_past_right.Goals as goal

pub returns : goal.returns
returns c = record { past = repair_past; repair = repair_kept }
