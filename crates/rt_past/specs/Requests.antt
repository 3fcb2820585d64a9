-- Which requests are right, and how they are numbered.
use Rattle.std.specs.Prelude.{◌≡◌, ◌<◌, ◌≤◌, ◌^◌, ℕ, List, length}
use Rattle.rt_base.specs.declared.numbers.Offset.{Offset}
use Rattle.rt_base.specs.declared.numbers.Partition.{Partition}
use Rattle.rt_base.specs.declared.numbers.Sequence.{Sequence}
use Rattle.rt_lists.specs.Members.{Has}
use Rattle.rt_model.specs.declared.node.Node.TheVariants as node
use Rattle.rt_model.specs.declared.node.Seen.{Seen}
use Rattle.rt_model.specs.declared.request.Request.{Request}
use Rattle.rt_model.specs.declared.request.RequestKind.{RequestKind}
use Rattle.rt_model.specs.declared.request.RequestKind.TheVariants as kind
use Rattle.rt_model.specs.declared.request.RequestNumber.{RequestNumber}
use Rattle.rt_model.specs.declared.seg_meta.SegMeta.{SegMeta}
use Rattle.rt_model.specs.declared.sent.Sent.{Sent}
use Rattle.rt_model.specs.declared.sent.Sent.TheVariants as sent
use Rattle.rt_model.specs.declared.setup.Setup.{Setup}
use Rattle.rt_model.specs.Metadata.{HasNode, IsInProgress}
use Rattle.rt_msgs.specs.Numbered.{Numbered, upload_path}
use Rattle.rt_stream.specs.Log.{messages_of}
use Rattle.rt_past.specs.Past.{Past}
use Rattle.rt_past.specs.Segments.{HadEntry, IsAssignedTo, IsBegun, IsBegunAs, IsIncarnation, name_at}
use Rattle.rt_past.specs.Files.{IsRightFile, Stands}

-- the path of a request's own upload: the name under which the segment's node was created, and the request's number
pub record IsUploadPath (h : List Seen) (p : Partition) (s : Sequence) (number : RequestNumber) (path : List ℕ) : Type 0 where
  pub name : List ℕ
  pub begun : IsBegunAs h p s name
  pub spelled : path ≡ upload_path name number

-- the name in it is that of the moment at which the node was created
pub record IsNamedByCreation (setup : Setup) (h : List Seen) (p : Partition) (s : Sequence) (number : RequestNumber) (path : List ℕ) : Type 0 where
  pub meta : SegMeta
  pub created : HasNode h p s.0 (λ n. n ≡ node.Meta meta)
  pub begins : IsInProgress meta.status
  pub spelled : path ≡ upload_path (name_at setup p s meta.written) number

-- by its kind, how far the sender has come from the segment's start, and which file the request is about
abbrev pub IsKind : Setup → Past → Request → Offset → RequestKind → Type 0
IsKind setup past q start kind.Stopped = start.0 ≤ q.offset.0
IsKind setup past q start (kind.Consumed reason) = start.0 < q.offset.0
IsKind setup past q start kind.CommitStart = start.0 < q.offset.0
IsKind setup past q start (kind.Extend millis) = start.0 < q.offset.0
IsKind setup past q start (kind.Upload path bytes) =
    IsUploadPath past.history q.partition q.sequence q.number path
    × IsRightFile setup past q.partition q.sequence start q.offset bytes
IsKind setup past q start (kind.CommitEnd path) =
    (bytes : List ℕ) × Stands past.files path bytes × IsRightFile setup past q.partition q.sequence start q.offset bytes

-- a request of a replica of the partition, in some incarnation of it, about a segment that was created and had an entry,
-- at an offset from its start on within the log
pub record IsRequest (setup : Setup) (past : Past) (q : Request) : Type 0 where
  pub partition : q.partition.0 < setup.partitions
  pub assigned : IsAssignedTo setup q.partition q.number.instance
  pub incarnation : IsIncarnation past.history q.number.instance q.number.incarnation
  pub count : q.number.count < 2 ^ 64
  pub entered : HadEntry past.history q.partition q.sequence
  pub start : Offset
  pub begun : IsBegun past.history q.partition q.sequence start
  pub within : q.offset.0 ≤ length (messages_of past.log q.partition)
  pub kind : IsKind setup past q start q.kind

-- ---- numbers

-- no two requests have one number
abbrev pub AreUnique : List Sent → Type 0
AreUnique ms =
    (q r : Request) → Has ms (sent.Request q) → Has ms (sent.Request r) → q.number ≡ r.number → q ≡ r

-- no request has this number
abbrev pub IsFresh : List Sent → RequestNumber → Type 0
IsFresh ms number = (q : Request) → Has ms (sent.Request q) → q.number ≡ number → ⊥

-- a number of an earlier incarnation, or of this one and below the next
abbrev pub IsDrawn : Numbered → RequestNumber → Type 0
IsDrawn n number = (number.incarnation ≤ n.incarnation) × (number.incarnation ≡ n.incarnation → number.count < n.made)

-- each request of the instance has a number that was drawn
abbrev pub AreDrawn : List Sent → Numbered → Type 0
AreDrawn ms n = (q : Request) → Has ms (sent.Request q) → q.number.instance ≡ n.instance → IsDrawn n q.number
