use Rattle.std.proofs.Common.{◌≡◌, map, take}
use Rattle.rt_dryrun.specs.Peers.{server_copy}
use Rattle.rt_dryrun.proofs.server_peer.peers_of.Given as goal

abbrev pub invariant-loop-other : goal.invariant-loop-other
invariant-loop-other l = l.peers.items ≡ map (server_copy l.world.state) (take l.other-index l.others)
