use Rattle.rt_exact.proofs.Answers.{rows_alike}
use Rattle.rt_exact.proofs.Reading.{one_without_queries, read_alike}
use Rattle.rt_exact.proofs.laws.alike_worlds_are_read_alike.Goals as goal

pub returns-clause-reads : goal.returns-clause-reads
returns-clause-reads c = λ w v k. read_alike w v k.same

pub returns-clause-rows : goal.returns-clause-rows
returns-clause-rows c = rows_alike

pub returns-clause-whole : goal.returns-clause-whole
returns-clause-whole c = λ w v k none. one_without_queries w v k.same none
