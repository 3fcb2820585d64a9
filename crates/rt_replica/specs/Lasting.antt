-- What lasts of a server's replica, with respect to what has grown so far: the stream, the store's history, the files and
-- the messages. Each part stays true as these grow.
use Rattle.std.specs.Prelude.{◌≡◌, ◌<◌, ℕ, List, Option, Some, None}
use Rattle.rt_base.specs.declared.numbers.Instance.{Instance}
use Rattle.rt_base.specs.declared.numbers.Offset.{Offset}
use Rattle.rt_base.specs.declared.numbers.Partition.{Partition}
use Rattle.rt_base.specs.declared.numbers.Sequence.{Sequence}
use Rattle.rt_lists.specs.Members.{Has}
use Rattle.rt_model.specs.declared.request.Request.{Request}
use Rattle.rt_model.specs.declared.request.RequestKind.{RequestKind}
use Rattle.rt_model.specs.declared.request.RequestKind.TheVariants as kind
use Rattle.rt_model.specs.declared.request.RequestNumber.{RequestNumber}
use Rattle.rt_model.specs.declared.seg_meta.SeenMeta.{SeenMeta}
use Rattle.rt_model.specs.declared.sent.Sent.TheVariants as sent
use Rattle.rt_model.specs.declared.setup.Setup.{Setup}
use Rattle.rt_segment.specs.Segment.{SealedSegment}
use Rattle.rt_segment.specs.Spelling.{file_of}
use Rattle.rt_past.specs.Past.{Past}
use Rattle.rt_past.specs.Files.{IsRightFile, Stands}
use Rattle.rt_past.specs.Segments.{HadEntry, IsAssignedTo, IsBegun, IsBegunAs, WasDone}
use Rattle.rt_consumer.specs.declared.phase.Phase.{Phase}
use Rattle.rt_consumer.specs.declared.phase.Phase.TheVariants as phase
use Rattle.rt_consumer.specs.declared.stage.Stage.{Stage}
use Rattle.rt_consumer.specs.declared.stage.Stage.TheVariants.{InitialConsuming, CatchingUp, Holding, ConsumingToOnline, Retaining, Building, Starting, Uploading, Ending}
use Rattle.rt_consumer.specs.declared.waited.Waited.{Waited}
use Rattle.rt_consumer.specs.declared.waited.Waited.TheVariants.{Step, Extend}
use Rattle.rt_consumer.specs.declared.consumer.Consumer.{Consumer}
use Rattle.rt_consumer.specs.Consumer.{cur_in, number_of, settings_of}
use Rattle.rt_consumer.specs.Requests.{kind_at}
use Rattle.rt_replica.specs.Held.{IsHeld}

-- ---- what it asked

-- an instance asked with this number, in this incarnation, about the segment at an offset, for this
pub record WasAsked (past : Past) (i : Instance) (incarnation : ℕ) (p : Partition) (s : Sequence) (x : Offset) (number : RequestNumber) (asks : RequestKind) : Type 0 where
  pub own : (number.instance ≡ i) × (number.incarnation ≡ incarnation)
  pub request : Request
  pub was_sent : Has past.sent (sent.Request request)
  pub numbered : request.number ≡ number
  pub segment : (request.partition ≡ p) × (request.sequence ≡ s)
  pub offset : request.offset ≡ x
  pub kind : request.kind ≡ asks

-- the kind of the request that is due in a phase, by the name of the segment: after a stop it is that, whether it is
-- processed yet or not
abbrev pub IsStep : List ℕ → Phase → RequestNumber → RequestKind → Type 0
IsStep name (phase.Unsealed o) number asks = kind_at name number o.stage ≡ Some asks
IsStep name (phase.Discarded d) number asks = asks ≡ kind.Stopped
IsStep name (phase.Retained kept) number asks = ⊥
IsStep name (phase.Committed kept) number asks = ⊥

-- the kind of the request that is waited for: the one that is due, or one for more time
abbrev pub IsAskedIn : List ℕ → Phase → Waited → RequestKind → Type 0
IsAskedIn name ph (Step number) asks = IsStep name ph number asks
IsAskedIn name ph (Extend number) asks = (millis : ℕ) × (asks ≡ kind.Extend millis)

-- what is waited for was asked, at the offset that the replica is at, and is what its phase asks for
abbrev pub WaitsFor : Past → Instance → ℕ → Partition → Sequence → List ℕ → Phase → Option Waited → Type 0
WaitsFor past i incarnation p s name ph None = Unit {0}
WaitsFor past i incarnation p s name ph (Some waited) =
    (asks : RequestKind) × WasAsked past i incarnation p s (cur_in ph) (number_of waited) asks
    × IsAskedIn name ph waited asks

-- ---- what it was told

-- the file that a replica built is a right one of the segment, from its start up to an offset, and stands at the path at
-- which the replica itself uploaded it, in this incarnation
pub record HasUploaded (setup : Setup) (past : Past) (i : Instance) (incarnation : ℕ) (p : Partition) (s : Sequence) (start end : Offset) (built : SealedSegment) (path : List ℕ) : Type 0 where
  pub stands : Stands past.files path (file_of built)
  pub right : IsRightFile setup past p s start end (file_of built)
  pub number : RequestNumber
  pub asked : WasAsked past i incarnation p s end number (kind.Upload path (file_of built))

-- what is told at a stage: a commit was, and the built file, up to an offset, is at a path
abbrev pub ToldAt : (SeenMeta → Type 0) → (Offset → SealedSegment → List ℕ → Type 0) → Offset → Stage → Type 0
ToldAt Was Up x (ConsumingToOnline end done) = Was done
ToldAt Was Up x (Retaining done) = Was done
ToldAt Was Up x (Ending reason built path) = Up x built path
ToldAt Was Up x InitialConsuming = Unit {0}
ToldAt Was Up x (CatchingUp target reason) = Unit {0}
ToldAt Was Up x (Holding reason) = Unit {0}
ToldAt Was Up x (Building reason) = Unit {0}
ToldAt Was Up x (Starting reason built) = Unit {0}
ToldAt Was Up x (Uploading reason built) = Unit {0}

abbrev pub ToldIn : (SeenMeta → Type 0) → (Offset → SealedSegment → List ℕ → Type 0) → Phase → Type 0
ToldIn Was Up (phase.Unsealed o) = ToldAt Was Up o.rows.end o.stage
ToldIn Was Up (phase.Retained kept) = Was kept.done
ToldIn Was Up (phase.Committed kept) = Was kept.done
ToldIn Was Up (phase.Discarded d) = Unit {0}

abbrev pub IsToldIn : Setup → Past → Instance → ℕ → Partition → Sequence → Offset → Phase → Type 0
IsToldIn setup past i incarnation p s start ph =
    ToldIn (WasDone past.history p s) (HasUploaded setup past i incarnation p s start) ph

-- ---- a replica of this instance, in this incarnation of it

pub record IsReplica (setup : Setup) (past : Past) (i : Instance) (incarnation : ℕ) (r : Consumer) : Type 0 where
  pub settings : r.settings ≡ settings_of setup
  pub partition : r.partition.0 < setup.partitions
  pub assigned : IsAssignedTo setup r.partition i
  pub entered : HadEntry past.history r.partition r.sequence
  pub begun : IsBegun past.history r.partition r.sequence r.start
  pub named : IsBegunAs past.history r.partition r.sequence r.name
  pub held : IsHeld past.log r
  pub told : IsToldIn setup past i incarnation r.partition r.sequence r.start r.phase
  pub waited : WaitsFor past i incarnation r.partition r.sequence r.name r.phase r.waited
