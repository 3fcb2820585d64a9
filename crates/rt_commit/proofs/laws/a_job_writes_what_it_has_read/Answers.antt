use Rattle.rt_commit.proofs.Owns.{owns_step, reads_step, told_step}
use Rattle.rt_commit.proofs.laws.a_job_writes_what_it_has_read.Goals as goal

pub returns-clause-reads : goal.returns-clause-reads
returns-clause-reads c = reads_step

pub returns-clause-writes : goal.returns-clause-writes
returns-clause-writes c = owns_step

pub returns-clause-tells : goal.returns-clause-tells
returns-clause-tells c = told_step
