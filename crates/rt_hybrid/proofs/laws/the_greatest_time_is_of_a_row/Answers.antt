use Rattle.rt_hybrid.proofs.Greatest.{is_greatest}
use Rattle.rt_hybrid.proofs.laws.the_greatest_time_is_of_a_row.Goals as goal

pub returns-clause-some : goal.returns-clause-some
returns-clause-some c = is_greatest
