use Rattle.rt_past.proofs.Growth.{within_grows, within_then}
use Rattle.rt_past.proofs.laws.growth_keeps_all.Goals as goal

pub returns : goal.returns
returns c = record { grows = within_grows; again = within_then }
