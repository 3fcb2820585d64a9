use Rattle.rt_store.proofs.Assigned.{setup_assigned}
use Rattle.rt_store.proofs.laws.a_cluster_starts_assigned.Goals as goal

pub returns : goal.returns
returns c = setup_assigned
