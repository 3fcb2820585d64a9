use Rattle.rt_live_end.proofs.Telling.{all_answered, all_committed}
use Rattle.rt_live_end.proofs.headline.a_run_that_ends_rightly_leaves_nothing_out.Goals as goal

pub returns : goal.returns
returns c = record { committed = all_committed; answered = all_answered }
