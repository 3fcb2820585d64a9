use Rattle.rt_peer.proofs.RightPeers.{right_one}
use Rattle.rt_peer.proofs.laws.a_right_peers_file_is_the_one_file.Goals as goal

pub returns : goal.returns
returns c = right_one
