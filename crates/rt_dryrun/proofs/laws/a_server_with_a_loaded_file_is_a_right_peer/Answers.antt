use Rattle.rt_dryrun.proofs.RightPeers.{loaded_is_right}
use Rattle.rt_dryrun.proofs.laws.a_server_with_a_loaded_file_is_a_right_peer.Goals as goal

pub returns : goal.returns
returns c = loaded_is_right
