-- From which server the file of a segment comes, where the deep store has none.
use Rattle.std.specs.Prelude.{◌≡◌, ◌&&◌, ◌==◌, nat_lt, not, ℕ, zero, suc, Bool, List, [], ◌∷◌, ◌++◌, Option, Some, None, Result, Ok, Err, slice_get, if◌then◌else◌}
use Rattle.rt_base.specs.declared.header.Header.{Header}
use Rattle.rt_base.specs.declared.numbers.Instance.{Instance}
use Rattle.rt_base.specs.declared.numbers.Partition.{Partition}
use Rattle.rt_base.specs.declared.numbers.Sequence.{Sequence}
use Rattle.rt_events.specs.declared.refusal.Refusal.{Refusal}
use Rattle.rt_events.specs.declared.refusal.Refusal.TheVariants.{NoSuchNode, NodeDown, NothingToDo}
use Rattle.rt_model.specs.Metadata.{metadata_of}
use Rattle.rt_model.specs.declared.node.Listed.{Listed}
use Rattle.rt_model.specs.declared.seg_meta.SegMeta.{SegMeta}
use Rattle.rt_model.specs.declared.status.Status.{Status}
use Rattle.rt_model.specs.declared.status.Status.TheVariants.{InProgress, Done, Abandoned}
use Rattle.rt_segment.specs.Segment.{SealedSegment}
use Rattle.rt_peer.specs.Files.{file_in, header_by}
use Rattle.rt_peer.specs.Meaning.{Meaning}
use Rattle.rt_peer.specs.declared.got.Got.{Got}
use Rattle.rt_state.specs.Finding.{has_partition, is_server_up}
use Rattle.rt_world.specs.Reading.{copy_in}
use Rattle.rt_state.specs.Room.{only_if}
use Rattle.rt_state.specs.declared.state.State.{State}
use Rattle.rt_dryrun.specs.declared.peer_file.PeerFile.{PeerFile}

-- ---- a server as a peer

pub record ServerCopy : Type 0 where
  pub world : State
  pub instance : Instance

-- it tells what it holds, and never fails
abbrev pub peer_meaning : ServerCopy → Meaning
peer_meaning c = record { told = Some (copy_in c.world c.instance); faults = 0 }

abbrev pub server_copy : State → Instance → ServerCopy
server_copy w i = record { world = w; instance = i }

-- ---- which servers are asked

abbrev pub numbered : ℕ → Instance
numbered n = record { 0 = n }

-- another server, which is up
abbrev pub is_other : State → Instance → ℕ → Bool
is_other w i n = not (n == i.0) && is_server_up w (numbered n)

-- the other servers below a number that are up, ascending
abbrev pub others_below : State → Instance → ℕ → List Instance
others_below w i zero = []
others_below w i (suc n) = others_below w i n ++ (if is_other w i n then numbered n ∷ [] else [])

abbrev pub others_of : State → Instance → List Instance
others_of w i = others_below w i w.setup.servers

-- ---- what they have

-- the wanted file in a copy, if it is that
abbrev pub file_of_copy : Header → Option (List ℕ) → Option SealedSegment
file_of_copy wanted None = None
file_of_copy wanted (Some bytes) = file_in wanted bytes

abbrev pub first_of : Instance → Option SealedSegment → Option PeerFile → Option PeerFile
first_of i None later = later
first_of i (Some file) later = Some (record { from = i; rows = file.rows })

-- the first server of some that has the wanted file
abbrev pub file_among : State → Header → List Instance → Option PeerFile
file_among w wanted [] = None
file_among w wanted (i ∷ later) =
    first_of i (file_of_copy wanted (copy_in w i wanted.partition wanted.sequence)) (file_among w wanted later)

-- the file as its peer's place tells it
abbrev pub named_by : Option Instance → SealedSegment → Option PeerFile
named_by None file = None
named_by (Some i) file = Some (record { from = i; rows = file.rows })

abbrev pub placed_at : List Instance → Option ℕ → SealedSegment → Option PeerFile
placed_at others None file = None
placed_at others (Some place) file = named_by (slice_get others place) file

abbrev pub got_from : List Instance → Got → Option PeerFile
got_from others got = placed_at others got.from got.sealed

-- ---- the call

-- the metadata of a sequence
abbrev pub meta_in : List Listed → Sequence → Option SegMeta
meta_in [] q = None
meta_in (node ∷ nodes) q = if node.sequence.0 == q.0 then Some node.seen.meta else meta_in nodes q

abbrev pub file_by : Status → State → Partition → Sequence → SegMeta → List Instance → Result (Option PeerFile) Refusal
file_by InProgress w p q meta others = Err NothingToDo
file_by (Done commit) w p q meta others = Ok (file_among w (header_by p q meta commit) others)
file_by Abandoned w p q meta others = Err NothingToDo

abbrev pub file_at : Option SegMeta → State → Instance → Partition → Sequence → Result (Option PeerFile) Refusal
file_at None w i p q = Err NothingToDo
file_at (Some meta) w i p q = file_by meta.status w p q meta (others_of w i)

abbrev pub has_server : State → Instance → Bool
has_server w i = nat_lt i.0 w.setup.servers

-- for a server that is up and a segment whose node is Done: the first of the other servers that are up which has the file
-- that the metadata names, if one has it
abbrev pub peer_of : State → Instance → Partition → Sequence → Result (Option PeerFile) Refusal
peer_of w i p q =
    only_if (has_server w i && has_partition w p) NoSuchNode
    (only_if (is_server_up w i) NodeDown (file_at (meta_in (metadata_of w.store.writes p) q) w i p q))

-- a file was found among some servers, or none
abbrev pub FindsFile : Status → State → Partition → Sequence → SegMeta → List Instance → Option PeerFile → Type 0
FindsFile status w p q meta others found = file_by status w p q meta others ≡ Ok found
