use Rattle.rt_controller.proofs.OneJob.{job_has_its_machine, machine_has_one_job}
use Rattle.rt_controller.proofs.lasting.a_committing_machine_has_its_job.Goals as goal

pub returns : goal.returns
returns c = record { machines = machine_has_one_job; jobs = job_has_its_machine }
