use Rattle.std.proofs.Common.{◌≡◌}
use Rattle.rt_peer.proofs.Leading.{Leads}
use Rattle.rt_peer.proofs.fetching.ask_peers.Given as goal

abbrev pub invariant-loop-peer : goal.invariant-loop-peer
invariant-loop-peer g l = record {
  counted : l.number ≡ l.peer-index;
  asked : Leads g.P.Peer.meaning l.wanted l.faulted l.initial.peers l.failed l.peer-index l.peers;
}
