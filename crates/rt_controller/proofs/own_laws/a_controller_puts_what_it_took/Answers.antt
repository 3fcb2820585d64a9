use Rattle.rt_controller.proofs.OwnPuts.{request_puts, request_writes, step_puts}
use Rattle.rt_controller.proofs.own_laws.a_controller_puts_what_it_took.Goals as goal

pub returns-clause-puts : goal.returns-clause-puts
returns-clause-puts c = request_puts

pub returns-clause-writes : goal.returns-clause-writes
returns-clause-writes c = request_writes

pub returns-clause-steps : goal.returns-clause-steps
returns-clause-steps c = step_puts
