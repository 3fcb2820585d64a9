-- What lasts of a replica over what its own server has seen, sent and taken alone.
use Rattle.std.specs.Prelude.{◌≡◌, ◌<◌, ◌≤◌, ◌⊎◌, ℕ, List}
use Rattle.rt_base.specs.declared.numbers.Instance.{Instance}
use Rattle.rt_base.specs.declared.numbers.Offset.{Offset}
use Rattle.rt_base.specs.declared.numbers.Partition.{Partition}
use Rattle.rt_base.specs.declared.numbers.Sequence.{Sequence}
use Rattle.rt_lists.specs.Members.{Has}
use Rattle.rt_model.specs.declared.ideal_state.IdealEntry.{IdealEntry}
use Rattle.rt_model.specs.declared.node.Seen.{Seen}
use Rattle.rt_model.specs.declared.reply.Reply.{Reply}
use Rattle.rt_model.specs.declared.reply.ReplyStatus.TheVariants as status
use Rattle.rt_model.specs.declared.request.Request.{Request}
use Rattle.rt_model.specs.declared.request.RequestKind.{RequestKind}
use Rattle.rt_model.specs.declared.request.RequestKind.TheVariants as kind
use Rattle.rt_model.specs.declared.seg_meta.SeenMeta.{SeenMeta}
use Rattle.rt_model.specs.declared.sent.Sent.{Sent}
use Rattle.rt_model.specs.declared.sent.Sent.TheVariants as sent
use Rattle.rt_model.specs.declared.setup.Setup.{Setup}
use Rattle.rt_model.specs.Entries.{IsIdealWrite, entries_by}
use Rattle.rt_segment.specs.Segment.{SealedSegment}
use Rattle.rt_segment.specs.Spelling.{file_of}
use Rattle.rt_stream.specs.Log.{messages_of}
use Rattle.rt_past.specs.Past.{Past}
use Rattle.rt_past.specs.Files.{IsRightFile}
use Rattle.rt_past.specs.Requests.{IsUploadPath}
use Rattle.rt_past.specs.Segments.{HadEntry, IsAssignedTo, IsBegun, IsBegunAs, WasDone}
use Rattle.rt_past.specs.View.{Carries}
use Rattle.rt_consumer.specs.declared.phase.Phase.{Phase}
use Rattle.rt_consumer.specs.declared.consumer.Consumer.{Consumer}
use Rattle.rt_consumer.specs.Consumer.{settings_of}
use Rattle.rt_replica.specs.HeldSoFar.{IsHeldSoFar, IsReached}
use Rattle.rt_replica.specs.Lasting.{HasUploaded, ToldIn, WasAsked, WaitsFor}

-- an instance had an entry of the segment in some ideal state
pub record HadPlace (h : List Seen) (i : Instance) (p : Partition) (s : Sequence) : Type 0 where
  pub write : Seen
  pub is : IsIdealWrite h write
  pub entry : IdealEntry
  pub has : Has (entries_by write.node) entry
  pub names : (entry.partition ≡ p) × (entry.sequence ≡ s) × (entry.instance ≡ i)

-- it had one, or it is known to be assigned
abbrev pub IsPlaced : Setup → List Seen → Instance → Partition → Sequence → Type 0
IsPlaced setup h i p s = HadPlace h i p s ⊎ (IsAssignedTo setup p i × HadEntry h p s)

-- a reply about the segment carried it
pub record WasCarried (ms : List Sent) (p : Partition) (s : Sequence) (done : SeenMeta) : Type 0 where
  pub reply : Reply
  pub taken : Has ms (sent.Reply reply)
  pub segment : (reply.partition ≡ p) × (reply.sequence ≡ s)
  pub carries : Carries reply.status done

-- a commit of the segment was seen, or a reply that was taken carried it
abbrev pub WasTold : Past → Partition → Sequence → SeenMeta → Type 0
WasTold view p s done = WasDone view.history p s done ⊎ WasCarried view.sent p s done

-- the upload of the built file was asked for, and answered with this path
pub record WasAnswered (view : Past) (i : Instance) (incarnation : ℕ) (p : Partition) (s : Sequence) (x : Offset) (built : SealedSegment) (path : List ℕ) : Type 0 where
  pub reply : Reply
  pub taken : Has view.sent (sent.Reply reply)
  pub status : reply.status ≡ status.UploadSuccess path
  pub own : List ℕ
  pub asked : WasAsked view i incarnation p s x reply.number (kind.Upload own (file_of built))

-- the built file stands where it was uploaded, or that was answered
abbrev pub IsUp : Setup → Past → Instance → ℕ → Partition → Sequence → Offset → Offset → SealedSegment → List ℕ → Type 0
IsUp setup view i incarnation p s start x built path =
    HasUploaded setup view i incarnation p s start x built path ⊎ WasAnswered view i incarnation p s x built path

abbrev pub IsOwnToldIn : Setup → Past → Instance → ℕ → Partition → Sequence → Offset → Phase → Type 0
IsOwnToldIn setup view i incarnation p s start ph =
    ToldIn (WasTold view p s) (IsUp setup view i incarnation p s start) ph

pub record IsOwnReplica (setup : Setup) (view : Past) (i : Instance) (incarnation : ℕ) (r : Consumer) : Type 0 where
  pub settings : r.settings ≡ settings_of setup
  pub partition : r.partition.0 < setup.partitions
  pub placed : IsPlaced setup view.history i r.partition r.sequence
  pub begun : IsBegun view.history r.partition r.sequence r.start
  pub named : IsBegunAs view.history r.partition r.sequence r.name
  pub held : IsHeldSoFar view.log r
  pub told : IsOwnToldIn setup view i incarnation r.partition r.sequence r.start r.phase
  pub waited : WaitsFor view i incarnation r.partition r.sequence r.name r.phase r.waited

-- ---- what it asks

abbrev pub IsOwnKind : Setup → Past → Request → Offset → RequestKind → Type 0
IsOwnKind setup view q start kind.Stopped = start.0 ≤ q.offset.0
IsOwnKind setup view q start (kind.Consumed reason) = start.0 < q.offset.0
IsOwnKind setup view q start kind.CommitStart = start.0 < q.offset.0
IsOwnKind setup view q start (kind.Extend millis) = start.0 < q.offset.0
IsOwnKind setup view q start (kind.Upload path bytes) =
    IsUploadPath view.history q.partition q.sequence q.number path
    × IsRightFile setup view q.partition q.sequence start q.offset bytes
IsOwnKind setup view q start (kind.CommitEnd path) =
    (built : SealedSegment)
    × IsUp setup view q.number.instance q.number.incarnation q.partition q.sequence start q.offset built path

pub record IsOwnRequest (setup : Setup) (view : Past) (q : Request) : Type 0 where
  pub partition : q.partition.0 < setup.partitions
  pub placed : IsPlaced setup view.history q.number.instance q.partition q.sequence
  pub start : Offset
  pub begun : IsBegun view.history q.partition q.sequence start
  pub within : IsReached (messages_of view.log q.partition) start q.offset
  pub kind : IsOwnKind setup view q start q.kind
