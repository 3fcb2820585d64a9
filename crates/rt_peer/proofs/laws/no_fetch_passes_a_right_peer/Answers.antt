use Rattle.rt_peer.proofs.Refusing.{passed_peer}
use Rattle.rt_peer.proofs.Passing.{passed_right}
use Rattle.rt_peer.proofs.laws.no_fetch_passes_a_right_peer.Goals as goal

pub returns : goal.returns
returns c = record { holds = passed_peer; right = passed_right }
