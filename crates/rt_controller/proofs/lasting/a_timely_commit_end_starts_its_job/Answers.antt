use Rattle.rt_controller.proofs.Timely.{timely_job, timely_left, timely_starts}
use Rattle.rt_controller.proofs.lasting.a_timely_commit_end_starts_its_job.Goals as goal

pub returns-clause-starts : goal.returns-clause-starts
returns-clause-starts c = λ setup past c new r now path place m s t d e what k has i timely h.
    timely_starts setup past k c r now path place m has i timely s t d e new what h

pub returns-clause-job : goal.returns-clause-job
returns-clause-job c = λ setup past c r now path place m k has i timely. timely_job setup past k c r now path place m has i timely

pub returns-clause-steps : goal.returns-clause-steps
returns-clause-steps c = λ setup past c r now path place m k has i timely. timely_left setup past k c r now path place m has i timely
