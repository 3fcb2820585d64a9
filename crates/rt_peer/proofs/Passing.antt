-- No fetch passes a right peer that holds the segment.
use Rattle.std.proofs.Common.{◌≡◌, ℕ, ◌<◌, List, Some, slice_get}
use Rattle.rt_base.specs.declared.header.Header.{Header}
use Rattle.rt_model.specs.declared.setup.Setup.{Setup}
use Rattle.rt_deep.specs.Meaning.{Meaning as DeepMeaning}
use Rattle.rt_peer.specs.declared.peer_refused.PeerRefused.{PeerRefused}
use Rattle.rt_peer.specs.declared.peer_refused.PeerRefused.TheVariants as refused
use Rattle.rt_peer.specs.Fetching.{Fetches}
use Rattle.rt_peer.specs.Meaning.{Meaning}
use Rattle.rt_peer.specs.RightPeer.{IsHeld, IsRightPeer}
use Rattle.rt_peer.proofs.Refusing.{passed_peer, refuse}
use Rattle.rt_peer.proofs.RightPeers.{held_wanted}

pub passed_right : (setup : Setup) (messages : List (List ℕ)) (wanted : Header) (path bytes : List ℕ) (before after : DeepMeaning) (olds news : List Meaning)
    (e : PeerRefused) (k : ℕ) (old new : Meaning) → Fetches wanted path before after olds news (refuse e) → (e ≡ refused.Memory → ⊥)
    → slice_get olds k ≡ Some old → slice_get news k ≡ Some new → IsRightPeer setup messages wanted old → IsHeld old.told wanted bytes → old.faults < new.faults
passed_right setup messages wanted path bytes before after olds news e k old new h other is now right held =
    passed_peer wanted path bytes before after olds news e k old new h other is now held (held_wanted setup messages wanted old.told bytes right held)
