use Rattle.rt_model.proofs.Lawful.{has_endings}
use Rattle.rt_model.proofs.laws.an_ended_node_changes_by_its_deletion_alone.Goals as goal

pub returns : goal.returns
returns c = has_endings
