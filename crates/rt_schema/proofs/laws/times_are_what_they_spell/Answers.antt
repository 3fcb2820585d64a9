use Rattle.rt_schema.proofs.Times.{times_spelled}
use Rattle.rt_schema.proofs.laws.times_are_what_they_spell.Goals as goal

pub returns : goal.returns
returns c = times_spelled
