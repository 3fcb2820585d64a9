-- Which bytes are the file that metadata names.
use Rattle.std.specs.Prelude.{◌≡◌, ℕ, ◌&&◌, ◌==◌, Bool, List, Option, Some, None, Result, Ok, Err, if◌then◌else◌}
use Rattle.std.specs.Str.{bytes_eq}
use Rattle.rt_base.specs.declared.header.Header.{Header}
use Rattle.rt_base.specs.declared.numbers.Partition.{Partition}
use Rattle.rt_base.specs.declared.numbers.Sequence.{Sequence}
use Rattle.rt_model.specs.declared.commit.Commit.{Commit}
use Rattle.rt_model.specs.declared.seg_meta.SegMeta.{SegMeta}
use Rattle.rt_segment.specs.declared.segment_refused.SegmentRefused.{SegmentRefused}
use Rattle.rt_segment.specs.declared.segment_refused.SegmentRefused.TheVariants as segment
use Rattle.rt_segment.specs.Reading.{read_file}
use Rattle.rt_segment.specs.Segment.{SealedSegment, IsSealed}
use Rattle.rt_segment.specs.Spelling.{file_of, header_of}
use Rattle.rt_peer.specs.declared.peer_fault.PeerFault.{PeerFault}
use Rattle.rt_peer.specs.declared.peer_fault.PeerFault.TheVariants.{Failed, Memory}

-- the header that the metadata of a commit names
abbrev pub header_by : Partition → Sequence → SegMeta → Commit → Header
header_by p s meta commit =
    record {
      partition = p;
      sequence = s;
      range = record { start = meta.start; end = commit.end };
      rows = commit.rows;
      digest = commit.digest;
    }

abbrev pub same_header : Header → Header → Bool
same_header a b =
    (a.partition.0 == b.partition.0) && (a.sequence.0 == b.sequence.0) && (a.range.start.0 == b.range.start.0)
    && (a.range.end.0 == b.range.end.0) && (a.rows == b.rows) && bytes_eq a.digest b.digest

-- a segment, where it has the wanted header
abbrev pub named_in : Header → SealedSegment → Option SealedSegment
named_in wanted sealed = if same_header (header_of sealed) wanted then Some sealed else None

-- the segment that was read, where it has the wanted header
abbrev pub fitting : Header → Result SealedSegment SegmentRefused → Option SealedSegment
fitting wanted (Ok sealed) = named_in wanted sealed
fitting wanted (Err refused) = None

-- the segment in bytes, where they are the wanted file
abbrev pub file_in : Header → List ℕ → Option SealedSegment
file_in wanted bytes = fitting wanted (read_file bytes)

-- the same, as a fact: bytes that spell a segment with the wanted header
pub record IsWanted (wanted : Header) (bytes : List ℕ) : Type 0 where
  pub segment : SealedSegment
  pub right : IsSealed segment
  pub spelled : bytes ≡ file_of segment
  pub named : header_of segment ≡ wanted

-- by what was decoded: which may have met want of memory
abbrev pub decoded_as : Header → Result SealedSegment SegmentRefused → Result (Option SealedSegment) PeerFault
decoded_as wanted (Ok sealed) = Ok (named_in wanted sealed)
decoded_as wanted (Err segment.Truncated) = Ok None
decoded_as wanted (Err segment.Magic) = Ok None
decoded_as wanted (Err (segment.NotCanonical byte)) = Ok None
decoded_as wanted (Err segment.Digest) = Ok None
decoded_as wanted (Err segment.Limit) = Ok None
decoded_as wanted (Err segment.Memory) = Err Memory

-- a call comes to this, unless memory ran out
abbrev pub Comes : {X : Type 0} → Result X PeerFault → Result X PeerFault → Type 0
Comes step (Ok x) = step ≡ Ok x
Comes step (Err Failed) = step ≡ Err Failed
Comes step (Err Memory) = Unit {0}
