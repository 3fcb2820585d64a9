-- What a server serves, and what it has of committed segments, is the stream's.
use Rattle.std.specs.Prelude.{◌≡◌, ◌<◌, ◌≤◌, ℕ, List, length, Option, Some, None, IfSome}
use Rattle.rt_base.specs.declared.numbers.Offset.{Offset}
use Rattle.rt_base.specs.declared.numbers.Partition.{Partition}
use Rattle.rt_base.specs.declared.numbers.Sequence.{Sequence}
use Rattle.rt_schema.specs.Row.{rows_in}
use Rattle.rt_schema.specs.declared.row.Row.{Row}
use Rattle.rt_schema.specs.declared.schema.Schema.{Schema}
use Rattle.rt_mutable.specs.Consuming.{Consuming}
use Rattle.rt_mutable.specs.Consuming as consuming
use Rattle.rt_segment.specs.FileRight.{FileRight}
use Rattle.rt_segment.specs.Segment.{SealedSegment}
use Rattle.rt_segment.specs.Segment as segment
use Rattle.rt_segment.specs.Spelling.{file_of, header_of}
use Rattle.rt_stream.specs.Log.{messages_of}
use Rattle.rt_model.specs.declared.commit.Commit.{Commit}
use Rattle.rt_model.specs.declared.piece.Piece.{Piece}
use Rattle.rt_model.specs.declared.replica_state.ReplicaState.{ReplicaState}
use Rattle.rt_model.specs.declared.replica_state.ReplicaState.TheVariants as state
use Rattle.rt_model.specs.declared.seg_meta.SeenMeta.{SeenMeta}
use Rattle.rt_model.specs.declared.setup.Setup.{Setup}
use Rattle.rt_past.specs.Past.{Past}
use Rattle.rt_past.specs.Files.{IsRightFile, header_named, range_to}
use Rattle.rt_past.specs.Segments.{WasDone}
use Rattle.rt_consumer.specs.declared.phase.Phase.{Phase}
use Rattle.rt_consumer.specs.declared.phase.Phase.TheVariants as phase
use Rattle.rt_consumer.specs.declared.stage.Stage.{Stage}
use Rattle.rt_consumer.specs.declared.stage.Stage.TheVariants.{InitialConsuming, CatchingUp, Holding, ConsumingToOnline, Retaining, Building, Starting, Uploading, Ending}
use Rattle.rt_consumer.specs.Consumer.{end_of}
use Rattle.rt_entry.specs.declared.entry.Entry.{Entry}
use Rattle.rt_entry.specs.declared.entry.Entry.TheVariants.{Replica, Committed}
use Rattle.rt_entry.specs.declared.served_rows.ServedRows.{ServedRows}

-- ---- what is served

-- the range begins with the piece, and ends with it where the piece has an end; the rows are those of the messages there
pub record AreRightRows (schema : Schema) (messages : List (List ℕ)) (piece : Piece) (served : ServedRows) : Type 0 where
  pub start : served.range.start ≡ piece.start
  pub end : IfSome piece.end (λ end. served.range.end ≡ end)
  pub ordered : served.range.start.0 ≤ served.range.end.0
  pub within : served.range.end.0 ≤ length messages
  pub rows : served.rows ≡ rows_in schema messages served.range.start.0 served.range.end.0

-- ---- what is committed

-- the metadata of a commit, and the rows that an entry has of it
pub record CommittedRows : Type 0 where
  pub done : SeenMeta
  pub rows : List Row

abbrev pub sealed_rows : SeenMeta → SealedSegment → CommittedRows
sealed_rows done file = record { done = done; rows = segment.rows_of file }

abbrev pub stage_rows : Consuming → Stage → Option CommittedRows
stage_rows rows (Retaining done) = Some (record { done = done; rows = consuming.rows_of rows })
stage_rows rows InitialConsuming = None
stage_rows rows (CatchingUp target reason) = None
stage_rows rows (Holding reason) = None
stage_rows rows (ConsumingToOnline end done) = None
stage_rows rows (Building reason) = None
stage_rows rows (Starting reason built) = None
stage_rows rows (Uploading reason built) = None
stage_rows rows (Ending reason built path) = None

abbrev pub phase_rows : Phase → Option CommittedRows
phase_rows (phase.Unsealed o) = stage_rows o.rows o.stage
phase_rows (phase.Retained kept) = Some (sealed_rows kept.done kept.file)
phase_rows (phase.Committed kept) = Some (sealed_rows kept.done kept.file)
phase_rows (phase.Discarded d) = None

abbrev pub file_rows : SeenMeta → Option SealedSegment → Option CommittedRows
file_rows done None = None
file_rows done (Some file) = Some (sealed_rows done file)

-- what a committed entry has: a replica in RETAINING, RETAINED or COMMITTED, or a file that was loaded
abbrev pub committed_rows : Entry → Option CommittedRows
committed_rows (Replica r) = phase_rows r.phase
committed_rows (Committed c) = file_rows c.done c.file

-- the commit was written, and the rows are the stream's, from its start to its end
pub record IsRightCommitted (setup : Setup) (past : Past) (p : Partition) (q : Sequence) (c : CommittedRows) : Type 0 where
  pub done : WasDone past.history p q c.done
  pub end : Offset
  pub told : end_of c.done ≡ Some end
  pub ordered : c.done.meta.start.0 < end.0
  pub within : end.0 ≤ length (messages_of past.log p)
  pub rows : c.rows ≡ rows_in setup.schema (messages_of past.log p) c.done.meta.start.0 end.0

-- sealed rows of a committed entry: written as a file they are right, of the range of a commit that was written
pub record IsRightCopy (setup : Setup) (past : Past) (p : Partition) (q : Sequence) (file : SealedSegment) : Type 0 where
  pub done : SeenMeta
  pub was : WasDone past.history p q done
  pub end : Offset
  pub told : end_of done ≡ Some end
  pub right : FileRight setup.schema (messages_of past.log p) p q (range_to done.meta.start end) (file_of file)

-- a file that was loaded: written out again it is right, up to the end of its commit, and it has the header that the commit names
pub record IsLoadedCopy (setup : Setup) (past : Past) (p : Partition) (q : Sequence) (start : Offset) (commit : Commit) (file : SealedSegment) : Type 0 where
  pub right : IsRightFile setup past p q start commit.end (file_of file)
  pub same : right.file.segment ≡ file
  pub header : header_of file ≡ header_named p q start commit

-- ---- what a replica was told

-- a commit that was written; a replica in this state, at this offset, is at its end, or on the way there in
-- CONSUMING_TO_ONLINE alone
pub record IsToldOf (past : Past) (p : Partition) (q : Sequence) (at : ReplicaState) (x : Offset) (done : SeenMeta) : Type 0 where
  pub was : WasDone past.history p q done
  pub end : Offset
  pub told : end_of done ≡ Some end
  pub ahead : at ≡ state.ConsumingToOnline → x.0 < end.0
  pub reached : (at ≡ state.ConsumingToOnline → ⊥) → x ≡ end
