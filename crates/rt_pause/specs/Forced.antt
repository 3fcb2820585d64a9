-- The segments that a force job keeps, and those of them that are still in progress.
use Rattle.std.specs.Prelude.{Bool, true, false, ◌==◌, ◌&&◌, nat_lt, List, [], ◌∷◌, map, filter, IsTrue, Option, Some, None, slice_get, if◌then◌else◌}
use Rattle.std.specs.List.{list_any}
use Rattle.rt_base.specs.declared.numbers.Partition.{Partition}
use Rattle.rt_base.specs.declared.numbers.Sequence.{Sequence}
use Rattle.rt_lists.specs.Members.{Has}
use Rattle.rt_model.specs.declared.node.Listed.{Listed}
use Rattle.rt_model.specs.declared.status.Status.{Status}
use Rattle.rt_model.specs.declared.status.Status.TheVariants.{InProgress, Done, Abandoned}
use Rattle.rt_pause.specs.declared.replica_seen.ReplicaSeen.{ReplicaSeen}

abbrev pub Segment : Type 0
Segment = Partition × Sequence

abbrev pub segment_of : ReplicaSeen → Segment
segment_of replica = (replica.partition, replica.sequence)

-- the order of segments: by partition, then sequence
abbrev pub is_before : Segment → Segment → Bool
is_before a b = if a.0.0 == b.0.0 then nat_lt a.1.0 b.1.0 else nat_lt a.0.0 b.0.0

abbrev pub is_same : Segment → Segment → Bool
is_same a b = (a.0.0 == b.0.0) && (a.1.0 == b.1.0)

-- the segments with one more in its place, unless it is one of them
abbrev pub with_segment : Segment → List Segment → List Segment
with_segment s [] = s ∷ []
with_segment s (t ∷ ts) = if is_before s t then s ∷ t ∷ ts else (if is_same s t then t ∷ ts else t ∷ with_segment s ts)

abbrev pub with_segments : List Segment → List ReplicaSeen → List Segment
with_segments segments [] = segments
with_segments segments (replica ∷ replicas) = with_segments (with_segment (segment_of replica) segments) replicas

-- the segments of some replicas, each once, ascending
abbrev pub segments_of : List ReplicaSeen → List Segment
segments_of replicas = with_segments [] replicas

-- a segment comes before each of these
abbrev pub IsBeforeAll : Segment → List Segment → Type 0
IsBeforeAll s [] = Unit {0}
IsBeforeAll s (t ∷ ts) = IsTrue (is_before s t) × IsBeforeAll s ts

-- each segment comes before all later ones, so none comes twice
abbrev pub IsAscending : List Segment → Type 0
IsAscending [] = Unit {0}
IsAscending (s ∷ ts) = IsBeforeAll s ts × IsAscending ts

-- some replica is one of the segment
abbrev pub IsOfSome : List ReplicaSeen → Segment → Type 0
IsOfSome replicas s = Has (map segment_of replicas) s

abbrev pub is_in_progress : Status → Bool
is_in_progress InProgress = true
is_in_progress (Done commit) = false
is_in_progress Abandoned = false

-- a segment's node, where it is in progress
abbrev pub is_open : Sequence → Listed → Bool
is_open sequence node = (node.sequence.0 == sequence.0) && is_in_progress node.seen.meta.status

-- the metadata list of a partition, where there is one
abbrev pub nodes_in : Option (List Listed) → List Listed
nodes_in None = []
nodes_in (Some nodes) = nodes

abbrev pub nodes_of : List (List Listed) → Partition → List Listed
nodes_of nodes partition = nodes_in (slice_get nodes partition.0)

abbrev pub is_pending : List (List Listed) → Segment → Bool
is_pending nodes s = list_any (is_open s.1) (nodes_of nodes s.0)

-- the segments whose node is in progress
abbrev pub pending_of : List (List Listed) → List Segment → List Segment
pending_of nodes segments = filter (is_pending nodes) segments
