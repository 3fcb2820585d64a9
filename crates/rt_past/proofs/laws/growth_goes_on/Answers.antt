use Rattle.rt_past.proofs.Growth.{grows_same, grows_then}
use Rattle.rt_past.proofs.laws.growth_goes_on.Goals as goal

pub returns : goal.returns
returns c = record { same = grows_same; again = grows_then }
