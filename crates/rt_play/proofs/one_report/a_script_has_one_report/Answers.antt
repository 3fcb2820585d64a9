use Rattle.rt_play.proofs.OneGenerated.{generated_one}
use Rattle.rt_play.proofs.OneReport.{answer_one, front_of_one, report_one}
use Rattle.rt_play.proofs.one_report.a_script_has_one_report.Goals as goal

pub returns-clause-report : goal.returns-clause-report
returns-clause-report c = report_one

pub returns-clause-front : goal.returns-clause-front
returns-clause-front c = front_of_one

pub returns-clause-answer : goal.returns-clause-answer
returns-clause-answer c = answer_one

pub returns-clause-generated : goal.returns-clause-generated
returns-clause-generated c = generated_one
