use Rattle.rt_controller.proofs.StartsAlone.{starts_at_machine}
use Rattle.rt_controller.proofs.own_laws.a_commit_job_starts_at_its_machine_alone.Goals as goal

pub returns : goal.returns
returns c = starts_at_machine
