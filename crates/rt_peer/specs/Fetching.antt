-- How a file is fetched: the deep store is asked, then each peer in order, up to the first answer that is the file.
use Rattle.std.specs.Prelude.{◌≡◌, ℕ, ◌+◌, Bool, true, false, List, [], ◌∷◌, Option, Some, None, Result, Ok, Err, if◌then◌else◌}
use Rattle.rt_base.specs.declared.header.Header.{Header}
use Rattle.rt_base.specs.declared.numbers.Partition.{Partition}
use Rattle.rt_base.specs.declared.numbers.Sequence.{Sequence}
use Rattle.rt_model.specs.declared.seg_meta.SegMeta.{SegMeta}
use Rattle.rt_model.specs.declared.status.Status.{Status}
use Rattle.rt_model.specs.declared.status.Status.TheVariants.{InProgress, Done, Abandoned}
use Rattle.rt_segment.specs.Segment.{SealedSegment}
use Rattle.rt_segment.specs.Spelling.{header_of}
use Rattle.rt_deep.specs.declared.refused.DeepRefused.{DeepRefused}
use Rattle.rt_deep.specs.declared.refused.DeepRefused.TheVariants as deep
use Rattle.rt_deep.specs.Meaning.{Meaning as DeepMeaning}
use Rattle.rt_deep.specs.Calls.{Gets}
use Rattle.rt_peer.specs.declared.got.Got.{Got}
use Rattle.rt_peer.specs.declared.peer_fault.PeerFault.{PeerFault}
use Rattle.rt_peer.specs.declared.peer_fault.PeerFault.TheVariants.{Failed, Memory}
use Rattle.rt_peer.specs.declared.peer_refused.PeerRefused.{PeerRefused}
use Rattle.rt_peer.specs.declared.peer_refused.PeerRefused.TheVariants as refused
use Rattle.rt_peer.specs.Calls.{Copies}
use Rattle.rt_peer.specs.Files.{Comes, file_in, header_by}
use Rattle.rt_peer.specs.Meaning.{Meaning}

abbrev pub number_of : PeerRefused → Option ℕ
number_of refused.Nowhere = Some 1
number_of refused.Faulted = Some 2
number_of refused.Memory = None

-- ---- one place is asked, whose answer is the file, isn't, or is a fault

-- what the deep store's answer comes to; a get is refused in no other way than that nothing stands at the path
abbrev pub found_in : Header → Result (List ℕ) DeepRefused → Result (Option SealedSegment) PeerFault
found_in wanted (Ok bytes) = Ok (file_in wanted bytes)
found_in wanted (Err deep.Absent) = Ok None
found_in wanted (Err (deep.OtherBytes kept offered)) = Ok None
found_in wanted (Err deep.Failed) = Err Failed
found_in wanted (Err deep.Memory) = Err Memory

-- what a peer's answer comes to
abbrev pub copied_in : Header → Result (Option (List ℕ)) PeerFault → Result (Option SealedSegment) PeerFault
copied_in wanted (Ok None) = Ok None
copied_in wanted (Ok (Some bytes)) = Ok (file_in wanted bytes)
copied_in wanted (Err fault) = Err fault

-- the deep store is asked for the file at a path
pub record AsksDeep (wanted : Header) (path : List ℕ) (before after : DeepMeaning) (came : Result (Option SealedSegment) PeerFault) : Type 0 where
  pub answer : Result (List ℕ) DeepRefused
  pub gets : Gets before after path answer
  pub comes : Comes (found_in wanted answer) came

-- a peer is asked for its copy
pub record AsksPeer (wanted : Header) (old new : Meaning) (came : Result (Option SealedSegment) PeerFault) : Type 0 where
  pub answer : Result (Option (List ℕ)) PeerFault
  pub copies : Copies old new wanted.partition wanted.sequence answer
  pub comes : Comes (copied_in wanted answer) came

-- ---- one after the other

-- by what came of asking a place, where a fault was met before or not: the file ends the search, and so does want of memory;
-- else it goes on
abbrev pub After : Option ℕ → Bool → (Bool → Type 0) → Type 0 → Result (Option SealedSegment) PeerFault → Result Got PeerRefused → Type 0
After from faulted further unasked (Ok (Some sealed)) result = (result ≡ Ok (record { from = from; sealed = sealed })) × unasked
After from faulted further unasked (Ok None) result = further faulted
After from faulted further unasked (Err Failed) result = further true
After from faulted further unasked (Err Memory) result = (result ≡ Err refused.Memory) × unasked

-- why no file was found
abbrev pub unfound : Bool → PeerRefused
unfound faulted = if faulted then refused.Faulted else refused.Nowhere

-- the peers are asked in order, the first of which has this number, where a fault was met before or not; those behind the one
-- that ends the search aren't asked
abbrev pub AsksPeers : Header → Bool → ℕ → List Meaning → List Meaning → Result Got PeerRefused → Type 0
AsksPeers wanted faulted number [] [] result = result ≡ Err (unfound faulted)
AsksPeers wanted faulted number [] (new ∷ news) result = ⊥
AsksPeers wanted faulted number (old ∷ olds) [] result = ⊥
AsksPeers wanted faulted number (old ∷ olds) (new ∷ news) result =
    (came : Result (Option SealedSegment) PeerFault) × AsksPeer wanted old new came
    × After (Some number) faulted (λ failed. AsksPeers wanted failed (number + 1) olds news result) (news ≡ olds) came result

-- the deep store is asked for the file at a path, and then the peers
abbrev pub Fetches : Header → List ℕ → DeepMeaning → DeepMeaning → List Meaning → List Meaning → Result Got PeerRefused → Type 0
Fetches wanted path before after olds news result =
    (came : Result (Option SealedSegment) PeerFault) × AsksDeep wanted path before after came
    × After None false (λ failed. AsksPeers wanted failed 0 olds news result) (news ≡ olds) came result

-- the file of a commit is fetched; other metadata names no file
abbrev pub FetchesBy : Status → Partition → Sequence → SegMeta → DeepMeaning → DeepMeaning → List Meaning → List Meaning → Result Got PeerRefused → Type 0
FetchesBy InProgress p s meta before after olds news result = Unit {0}
FetchesBy (Done commit) p s meta before after olds news result =
    Fetches (header_by p s meta commit) commit.path before after olds news result
FetchesBy Abandoned p s meta before after olds news result = Unit {0}

-- what was fetched has the header that the metadata names
abbrev pub IsNamedBy : Status → Partition → Sequence → SegMeta → Got → Type 0
IsNamedBy InProgress p s meta got = ⊥
IsNamedBy (Done commit) p s meta got = header_of got.sealed ≡ header_by p s meta commit
IsNamedBy Abandoned p s meta got = ⊥
