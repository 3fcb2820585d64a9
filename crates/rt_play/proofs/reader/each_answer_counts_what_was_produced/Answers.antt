use Rattle.rt_play.proofs.Readings.{front_of_report_reads, report_reads}
use Rattle.rt_play.proofs.reader.each_answer_counts_what_was_produced.Goals as goal

pub returns-clause-report : goal.returns-clause-report
returns-clause-report c = report_reads

pub returns-clause-front : goal.returns-clause-front
returns-clause-front c = front_of_report_reads
