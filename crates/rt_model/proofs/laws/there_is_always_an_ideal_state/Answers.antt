use Rattle.rt_model.proofs.Lawful.{has_ideal_state}
use Rattle.rt_model.proofs.laws.there_is_always_an_ideal_state.Goals as goal

pub returns : goal.returns
returns c = has_ideal_state
