use Rattle.rt_controller.proofs.OwnAnswers.{request_answers, step_answers}
use Rattle.rt_controller.proofs.own_laws.a_controller_answers_what_it_saw.Goals as goal

pub returns-clause-requests : goal.returns-clause-requests
returns-clause-requests c = request_answers

pub returns-clause-steps : goal.returns-clause-steps
returns-clause-steps c = step_answers
