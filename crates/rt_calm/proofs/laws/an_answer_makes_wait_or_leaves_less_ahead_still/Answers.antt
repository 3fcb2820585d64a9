use Rattle.rt_calm.proofs.Rounds.{still_in_run}
use Rattle.rt_calm.proofs.laws.an_answer_makes_wait_or_leaves_less_ahead_still.Goals as goal

pub returns : goal.returns
returns c =
    λ setup turns w v instance segment is run up unplanned fetches calm h same.
    still_in_run setup turns w v is run instance segment up unplanned fetches calm h same
