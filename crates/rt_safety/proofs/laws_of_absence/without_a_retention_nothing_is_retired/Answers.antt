use Rattle.rt_safety.proofs.AlwaysPresent.{job_finds, node_present, request_finds}
use Rattle.rt_safety.proofs.Marks.{mark_stays, none_deleted}
use Rattle.rt_safety.proofs.laws_of_absence.without_a_retention_nothing_is_retired.Goals as goal

pub returns-clause-kept : goal.returns-clause-kept
returns-clause-kept c = none_deleted

pub returns-clause-present : goal.returns-clause-present
returns-clause-present c = node_present

pub returns-clause-mark : goal.returns-clause-mark
returns-clause-mark c = mark_stays

pub returns-clause-requests : goal.returns-clause-requests
returns-clause-requests c = request_finds

pub returns-clause-jobs : goal.returns-clause-jobs
returns-clause-jobs c = job_finds
