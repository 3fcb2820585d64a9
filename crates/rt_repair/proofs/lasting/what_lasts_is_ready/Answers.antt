use Rattle.rt_repair.proofs.Growing.{repair_ready, retire_ready}
use Rattle.rt_repair.proofs.lasting.what_lasts_is_ready.Goals as goal

pub returns : goal.returns
returns c = record { repairs = repair_ready; retires = retire_ready }
