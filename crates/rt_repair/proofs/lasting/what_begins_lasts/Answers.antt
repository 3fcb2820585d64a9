use Rattle.rt_repair.proofs.Growing.{repair_begins_over, retire_begins_over}
use Rattle.rt_repair.proofs.lasting.what_begins_lasts.Goals as goal

pub returns : goal.returns
returns c = record { repairs = repair_begins_over; retires = retire_begins_over }
