use Rattle.rt_heal.proofs.LessWorld.{builds_less, consumes_less}
use Rattle.rt_heal.proofs.laws.a_batch_and_a_build_leave_less_to_do.Goals as goal

pub returns-clause-consumes : goal.returns-clause-consumes
returns-clause-consumes c = λ w y i p q max outcome s follow some ready step. (consumes_less w y i p q outcome s follow max some ready step).less

pub returns-clause-builds : goal.returns-clause-builds
returns-clause-builds c = λ w y i p q outcome s follow step. (builds_less w y i p q outcome s follow step).less
