use Rattle.rt_live_end.proofs.Parts.{gave_more}
use Rattle.rt_live_end.proofs.joining.what_the_broker_was_told_was_given.Goals as goal

pub returns : goal.returns
returns c = gave_more
