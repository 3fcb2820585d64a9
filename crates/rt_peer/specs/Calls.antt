-- What each call of a peer promises, by what the peer means before it and after it.
use Rattle.std.specs.Prelude.{◌≡◌, ℕ, ◌<◌, List, Option, Some, None, Result, Ok, Err}
use Rattle.rt_base.specs.declared.numbers.Partition.{Partition}
use Rattle.rt_base.specs.declared.numbers.Sequence.{Sequence}
use Rattle.rt_peer.specs.declared.peer_fault.PeerFault.{PeerFault}
use Rattle.rt_peer.specs.declared.peer_fault.PeerFault.TheVariants.{Failed, Memory}
use Rattle.rt_peer.specs.Meaning.{Held, Meaning}

-- this is what the peer holds of the segment, as far as that is told
abbrev pub Holds : Option Held → Partition → Sequence → Option (List ℕ) → Type 0
Holds None p s bytes = Unit {0}
Holds (Some held) p s bytes = held p s ≡ bytes

-- a fault raises the count, and nothing else
pub record Faults (old new : Meaning) : Type 0 where
  pub told : new.told ≡ old.told
  pub rose : old.faults < new.faults

-- a call for the copy of a segment: it gives what the peer holds, but for a fault and for want of memory
abbrev pub Copies : Meaning → Meaning → Partition → Sequence → Result (Option (List ℕ)) PeerFault → Type 0
Copies old new p s (Ok bytes) = Holds old.told p s bytes × (new ≡ old)
Copies old new p s (Err Failed) = Faults old new
Copies old new p s (Err Memory) = new ≡ old
