use Rattle.rt_repair.proofs.Beginning.{decides_alike, retires_alike}
use Rattle.rt_repair.proofs.laws.what_is_kept_decides_as_the_list.Goals as goal

pub returns : goal.returns
returns c = record { repairs = decides_alike; retires = retires_alike }
