use Rattle.rt_play.proofs.Readings.{front_of_report_commits, report_commits}
use Rattle.rt_play.proofs.reader.what_was_committed_stays.Goals as goal

pub returns-clause-report : goal.returns-clause-report
returns-clause-report c = report_commits

pub returns-clause-front : goal.returns-clause-front
returns-clause-front c = front_of_report_commits
