use Rattle.rt_store.proofs.Beginnings.{lawful_from}
use Rattle.rt_store.proofs.laws.a_history_has_one_beginning.Goals as goal

pub returns : goal.returns
returns c = lawful_from
