use Rattle.rt_peer.proofs.RightPeers.{fetched_named}
use Rattle.rt_peer.proofs.laws.what_is_fetched_has_its_header.Goals as goal

pub returns : goal.returns
returns c = fetched_named
