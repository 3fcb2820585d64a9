use Rattle.rt_repair.proofs.Setting.{repair_sets, repair_leaves, retire_sets, retire_leaves}
use Rattle.rt_repair.proofs.laws.what_a_step_sets_is_counted.Goals as goal

pub returns : goal.returns
returns c =
    record { repairs = repair_sets; repair_writes = repair_leaves; retires = retire_sets; retire_writes = retire_leaves }
