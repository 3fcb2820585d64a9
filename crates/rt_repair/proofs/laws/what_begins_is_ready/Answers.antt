use Rattle.rt_repair.proofs.Beginning.{repair_begins, retire_begins}
use Rattle.rt_repair.proofs.laws.what_begins_is_ready.Goals as goal

pub returns : goal.returns
returns c = record { repairs = repair_begins; retires = retire_begins }
