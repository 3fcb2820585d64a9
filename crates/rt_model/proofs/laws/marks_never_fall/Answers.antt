use Rattle.rt_model.proofs.Lawful.{marks_rise}
use Rattle.rt_model.proofs.laws.marks_never_fall.Goals as goal

pub returns : goal.returns
returns c = marks_rise
