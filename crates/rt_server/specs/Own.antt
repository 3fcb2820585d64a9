-- What lasts of a server over what it has itself seen, sent and taken.
use Rattle.std.specs.Prelude.{◌≡◌, ◌+◌, ◌<◌, ◌⊎◌, ℕ, true, List, Ok, IfSome}
use Rattle.rt_base.specs.declared.numbers.Instance.{Instance}
use Rattle.rt_base.specs.declared.numbers.Partition.{Partition}
use Rattle.rt_base.specs.declared.numbers.Sequence.{Sequence}
use Rattle.rt_lists.specs.Members.{Has}
use Rattle.rt_segment.specs.Reading.{read_file}
use Rattle.rt_segment.specs.Segment.{SealedSegment, are_columns}
use Rattle.rt_segment.specs.Spelling.{header_of}
use Rattle.rt_model.specs.declared.commit.Commit.{Commit}
use Rattle.rt_model.specs.declared.request.Request.{Request}
use Rattle.rt_model.specs.declared.seg_meta.SeenMeta.{SeenMeta}
use Rattle.rt_model.specs.declared.setup.Setup.{Setup}
use Rattle.rt_model.specs.declared.status.Status.TheVariants.{Done}
use Rattle.rt_msgs.specs.Numbered.{number_at}
use Rattle.rt_past.specs.Past.{Past, with_request}
use Rattle.rt_past.specs.Files.{Stands, header_named}
use Rattle.rt_past.specs.Segments.{IsIncarnation}
use Rattle.rt_replica.specs.Own.{IsPlaced, WasTold, IsOwnReplica, IsOwnRequest}
use Rattle.rt_entry.specs.declared.entry.CommittedSegment.{CommittedSegment}
use Rattle.rt_entry.specs.declared.entry.Entry.{Entry}
use Rattle.rt_entry.specs.declared.entry.Entry.TheVariants.{Replica, Committed}
use Rattle.rt_server.specs.Kept.{IsServer}
use Rattle.rt_server.specs.Lasting.{AreTargets, IsLoaded}
use Rattle.rt_server.specs.Table.{Segment, ServerState, segment_of}

-- the file of a commit, as the deep store gave it: read of the bytes that stand at the commit's path, with the header that the
-- commit names and the columns of the schema
pub record IsGot (setup : Setup) (view : Past) (p : Partition) (q : Sequence) (done : SeenMeta) (file : SealedSegment) : Type 0 where
  pub commit : Commit
  pub status : done.meta.status ≡ Done commit
  pub bytes : List ℕ
  pub stands : Stands view.files commit.path bytes
  pub read : read_file bytes ≡ Ok file
  pub header : header_of file ≡ header_named p q done.meta.start commit
  pub columns : are_columns file.columns setup.schema.columns ≡ true

-- it has the stream's rows, or was given by the deep store
abbrev pub IsHad : Setup → Past → Partition → Sequence → SeenMeta → SealedSegment → Type 0
IsHad setup view p q done file = IsLoaded setup view p q done file ⊎ IsGot setup view p q done file

pub record IsOwnCommitted (setup : Setup) (view : Past) (i : Instance) (p : Partition) (q : Sequence) (c : CommittedSegment) : Type 0 where
  pub partition : p.0 < setup.partitions
  pub placed : IsPlaced setup view.history i p q
  pub done : WasTold view p q c.done
  pub had : IfSome c.file (IsHad setup view p q c.done)

abbrev pub IsOwnEntry : Setup → Past → Instance → ℕ → Segment → Entry → Type 0
IsOwnEntry setup view i incarnation s (Replica r) = (segment_of r ≡ s) × IsOwnReplica setup view i incarnation r
IsOwnEntry setup view i incarnation s (Committed c) = IsOwnCommitted setup view i s.0 s.1 c

abbrev pub AreOwnEntries : Setup → Past → Instance → ℕ → List (Segment × Entry) → Type 0
AreOwnEntries setup view i incarnation entries =
    (x : Segment × Entry) → Has entries x → IsOwnEntry setup view i incarnation x.0 x.1

pub record IsOwnServer (setup : Setup) (view : Past) (s : ServerState) : Type 0 where
  pub of_setup : s.setup ≡ setup
  pub kept : IsServer s.setup s.table
  pub incarnation : IsIncarnation view.history s.numbers.instance s.numbers.incarnation
  pub targets : AreTargets view.history s.numbers.instance s.table.targets
  pub entries : AreOwnEntries setup view s.numbers.instance s.numbers.incarnation s.table.entries

-- ---- what it asks

-- it asked about a segment with its next number. The request is its own, and once it is sent so is all else, with a number more
-- made
pub record HasOwnAsked (setup : Setup) (view : Past) (old new : ServerState) (p : Partition) (q : Sequence) (request : Request) : Type 0 where
  pub asked : IsOwnRequest setup view request
  pub number : request.number ≡ number_at old.numbers old.numbers.made
  pub segment : (request.partition ≡ p) × (request.sequence ≡ q)
  pub numbers : new.numbers ≡ record old.numbers { made = old.numbers.made + 1 }
  pub server : IsOwnServer setup (with_request view request) new
