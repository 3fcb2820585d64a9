use Rattle.rt_store.proofs.Seeing.{effect_of, of_effect}
use Rattle.rt_store.proofs.laws.refusals_are_of_no_effect.Goals as goal

pub returns : goal.returns
returns c h call = (effect_of h call, of_effect h call)
