-- What lasts of a server, with respect to what has grown so far: the stream, the store's history, the files and the
-- messages. Each part stays true as these grow.
use Rattle.std.specs.Prelude.{◌≡◌, ◌+◌, ◌<◌, ◌≤◌, ◌⊎◌, ℕ, All, List, [], length, IfSome}
use Rattle.rt_base.specs.declared.numbers.Instance.{Instance}
use Rattle.rt_base.specs.declared.numbers.Partition.{Partition}
use Rattle.rt_base.specs.declared.numbers.Sequence.{Sequence}
use Rattle.rt_lists.specs.Members.{Has}
use Rattle.rt_segment.specs.Segment.{SealedSegment}
use Rattle.rt_segment.specs.Spelling.{header_of}
use Rattle.rt_stream.specs.Log.{messages_of}
use Rattle.rt_model.specs.declared.commit.Commit.{Commit}
use Rattle.rt_model.specs.declared.ideal_state.Mode.{Mode}
use Rattle.rt_model.specs.declared.node.Seen.{Seen}
use Rattle.rt_model.specs.declared.request.Request.{Request}
use Rattle.rt_model.specs.declared.seg_meta.SeenMeta.{SeenMeta}
use Rattle.rt_model.specs.declared.sent.Sent.{Sent}
use Rattle.rt_model.specs.declared.setup.Setup.{Setup}
use Rattle.rt_model.specs.declared.status.Status.TheVariants.{Done}
use Rattle.rt_model.specs.Entries.{IsIdealWrite, entries_by}
use Rattle.rt_msgs.specs.Numbered.{number_at}
use Rattle.rt_past.specs.Past.{Past, Grows, with_request}
use Rattle.rt_past.specs.Files.{IsIndexed, header_named}
use Rattle.rt_past.specs.IsPast.{IsPast}
use Rattle.rt_past.specs.Requests.{AreDrawn, IsRequest}
use Rattle.rt_past.specs.Segments.{HadEntry, IsAssignedTo, IsIncarnation, WasDone}
use Rattle.rt_consumer.specs.Consumer.{IsKept}
use Rattle.rt_replica.specs.Held.{HoldsFile}
use Rattle.rt_replica.specs.Lasting.{IsReplica}
use Rattle.rt_entry.specs.declared.entry.CommittedSegment.{CommittedSegment}
use Rattle.rt_entry.specs.declared.entry.Entry.{Entry}
use Rattle.rt_entry.specs.declared.entry.Entry.TheVariants.{Replica, Committed}
use Rattle.rt_server.specs.Calls.{targets_of}
use Rattle.rt_server.specs.Kept.{IsServer}
use Rattle.rt_server.specs.Table.{Segment, ServerState, segment_of}

-- ---- an entry

-- the file of a commit: whole, of its segment and range, with the header that the commit names, in the setup's format, with an
-- index for the columns that the table's settings name, and with the stream's rows there
pub record IsLoaded (setup : Setup) (past : Past) (p : Partition) (q : Sequence) (done : SeenMeta) (file : SealedSegment) : Type 0 where
  pub kept : IsKept setup.schema p q done.meta.start (record { file = file; done = done })
  pub named : (commit : Commit) → done.meta.status ≡ Done commit → header_of file ≡ header_named p q done.meta.start commit
  pub format : file.format ≡ setup.format
  pub indexed : All (IsIndexed setup.table.indexed) file.columns
  pub held : HoldsFile setup.schema (messages_of past.log p) done.meta.start file

-- a committed segment that an instance is assigned to, and that has or had an entry in the ideal state: its commit was
-- written, and its file, unless that is still wanted, is the commit's
pub record IsCommittedOver (setup : Setup) (past : Past) (i : Instance) (p : Partition) (q : Sequence) (c : CommittedSegment) : Type 0 where
  pub partition : p.0 < setup.partitions
  pub assigned : IsAssignedTo setup p i
  pub entered : HadEntry past.history p q
  pub done : WasDone past.history p q c.done
  pub loaded : IfSome c.file (IsLoaded setup past p q c.done)

-- a replica of the segment, of this instance in this incarnation of it, or a commit of the segment
abbrev pub IsEntryOver : Setup → Past → Instance → ℕ → Segment → Entry → Type 0
IsEntryOver setup past i incarnation s (Replica r) = (segment_of r ≡ s) × IsReplica setup past i incarnation r
IsEntryOver setup past i incarnation s (Committed c) = IsCommittedOver setup past i s.0 s.1 c

-- so it is of each entry
abbrev pub AreEntriesOver : Setup → Past → Instance → ℕ → List (Segment × Entry) → Type 0
AreEntriesOver setup past i incarnation entries =
    (x : Segment × Entry) → Has entries x → IsEntryOver setup past i incarnation x.0 x.1

-- ---- a server

-- the targets of an instance in an ideal state that was written, or none
abbrev pub AreTargets : List Seen → Instance → List (Segment × Mode) → Type 0
AreTargets h i targets = (targets ≡ []) ⊎ ((w : Seen) × IsIdealWrite h w × (targets ≡ targets_of i (entries_by w.node)))

-- a server of the setup. Its incarnation is at most the version of its boot node, and it has made no more requests in it
-- than messages were sent
pub record IsServerOver (setup : Setup) (past : Past) (s : ServerState) : Type 0 where
  pub of_setup : s.setup ≡ setup
  pub kept : IsServer s.setup s.table
  pub exists : s.numbers.instance.0 < setup.servers
  pub incarnation : IsIncarnation past.history s.numbers.instance s.numbers.incarnation
  pub counted : s.numbers.made ≤ length past.sent
  pub targets : AreTargets past.history s.numbers.instance s.table.targets
  pub entries : AreEntriesOver setup past s.numbers.instance s.numbers.incarnation s.table.entries

-- a server that forgot all, as a crash leaves it
abbrev pub IsEmpty : ServerState → Type 0
IsEmpty s = s.table ≡ record { targets = []; entries = [] }

-- ---- what a server asks

-- it asked about a segment with its next number. The request is right, and once it is sent the server lasts, with a number
-- more made
pub record HasAsked (setup : Setup) (past : Past) (old new : ServerState) (p : Partition) (q : Sequence) (request : Request) : Type 0 where
  pub right : IsRequest setup past request
  pub number : request.number ≡ number_at old.numbers old.numbers.made
  pub segment : (request.partition ≡ p) × (request.sequence ≡ q)
  pub numbers : new.numbers ≡ record old.numbers { made = old.numbers.made + 1 }
  pub server : IsServerOver setup (with_request past request) new

-- ---- a step

-- a step of a server, as the past goes on: it goes on rightly, what lasts of the server is kept, and all numbers that were
-- drawn stay drawn
pub record StepsRight (setup : Setup) (a b : Past) (old new : ServerState) : Type 0 where
  pub grows : Grows a b
  pub right : IsPast setup b
  pub same : new.numbers.instance ≡ old.numbers.instance
  pub drawn : (ms : List Sent) → AreDrawn ms old.numbers → AreDrawn ms new.numbers
  pub server : IsServerOver setup b new

-- a request was asked with a fresh number, and sent
pub record SendsRight (setup : Setup) (past : Past) (old new : ServerState) (p : Partition) (q : Sequence) (request : Request) : Type 0 where
  pub asked : HasAsked setup past old new p q request
  pub grows : Grows past (with_request past request)
  pub right : IsPast setup (with_request past request)
  pub same : new.numbers.instance ≡ old.numbers.instance
  pub drawn : AreDrawn (with_request past request).sent new.numbers
