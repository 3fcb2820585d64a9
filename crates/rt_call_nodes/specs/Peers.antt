-- Peers that were given what they answer.
use Rattle.std.specs.Prelude.{Some}
use Rattle.rt_peer.specs.Meaning.{Meaning}
use Rattle.rt_call_nodes.specs.declared.given_peer.GivenPeer.{GivenPeer}

-- it holds the same of each segment
abbrev pub given : GivenPeer → Meaning
given peer = record { told = Some (λ p s. peer.held); faults = peer.faults.met }
