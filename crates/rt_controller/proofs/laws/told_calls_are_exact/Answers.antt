use Rattle.rt_commit.proofs.Telling.{told_out}
use Rattle.rt_controller.proofs.Telling.{told_request, told_work}
use Rattle.rt_controller.proofs.laws.told_calls_are_exact.Goals as goal

pub returns-clause-requests : goal.returns-clause-requests
returns-clause-requests c = told_request

pub returns-clause-steps : goal.returns-clause-steps
returns-clause-steps c = told_work

pub returns-clause-out : goal.returns-clause-out
returns-clause-out c = told_out
