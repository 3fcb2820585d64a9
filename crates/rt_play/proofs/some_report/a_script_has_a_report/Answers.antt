use Rattle.rt_play.proofs.ComingReports.{generated_comes, report_comes}
use Rattle.rt_play.proofs.some_report.a_script_has_a_report.Goals as goal

pub returns-clause-report : goal.returns-clause-report
returns-clause-report c = report_comes

pub returns-clause-generated : goal.returns-clause-generated
returns-clause-generated c = generated_comes
