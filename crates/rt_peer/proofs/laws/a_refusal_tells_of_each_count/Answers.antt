use Rattle.rt_peer.proofs.Counting.{faulted_rose, nowhere_stays, nowhere_told}
use Rattle.rt_peer.proofs.laws.a_refusal_tells_of_each_count.Goals as goal

pub returns : goal.returns
returns c = record { faulted = faulted_rose; nowhere = nowhere_stays; memory = nowhere_told }
