use Rattle.rt_repair.proofs.Growing.{repair_lasts, retire_lasts}
use Rattle.rt_repair.proofs.lasting.what_is_remembered_lasts.Goals as goal

pub returns : goal.returns
returns c = record { repairs = repair_lasts; retires = retire_lasts }
