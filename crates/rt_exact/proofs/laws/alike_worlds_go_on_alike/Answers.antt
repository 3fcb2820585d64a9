use Rattle.rt_exact.proofs.Alike.{stay_alike}
use Rattle.rt_exact.proofs.Dues.{due_alike}
use Rattle.rt_exact.proofs.laws.alike_worlds_go_on_alike.Goals as goal

pub returns-clause-due : goal.returns-clause-due
returns-clause-due c = λ w v e k. due_alike w v e k.same

pub returns-clause-told : goal.returns-clause-told
returns-clause-told c = λ w v e x y a b k fits h g. (stay_alike w v e x y a b k fits h g).0

pub returns-clause-alike : goal.returns-clause-alike
returns-clause-alike c = λ w v e x y a b k fits h g. (stay_alike w v e x y a b k fits h g).1
