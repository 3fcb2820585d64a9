use Rattle.rt_model.proofs.Lawful.{has_grounded_entries}
use Rattle.rt_model.proofs.laws.every_entry_has_its_node.Goals as goal

pub returns : goal.returns
returns c = has_grounded_entries
