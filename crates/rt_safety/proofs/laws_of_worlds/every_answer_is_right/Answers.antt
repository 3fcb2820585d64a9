use Rattle.rt_safety.proofs.Answering.{answers_in_runs, answers_right}
use Rattle.rt_safety.proofs.laws_of_worlds.every_answer_is_right.Goals as goal

pub returns-clause-safe : goal.returns-clause-safe
returns-clause-safe c = answers_right

pub returns-clause-runs : goal.returns-clause-runs
returns-clause-runs c = answers_in_runs
