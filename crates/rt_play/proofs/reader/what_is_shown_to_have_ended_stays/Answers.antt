use Rattle.rt_play.proofs.Readings.{front_of_report_stays, report_stays}
use Rattle.rt_play.proofs.reader.what_is_shown_to_have_ended_stays.Goals as goal

pub returns-clause-report : goal.returns-clause-report
returns-clause-report c = report_stays

pub returns-clause-front : goal.returns-clause-front
returns-clause-front c = front_of_report_stays
