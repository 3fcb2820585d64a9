-- What a server gave of a piece of a plan, by what it has itself seen, sent and taken.
use Rattle.std.specs.Prelude.{◌≡◌, ◌<◌, ◌≤◌, ◌⊎◌, ℕ, List, IfSome}
use Rattle.rt_base.specs.declared.range.Range.{Range}
use Rattle.rt_schema.specs.Row.{rows_in}
use Rattle.rt_schema.specs.declared.schema.Schema.{Schema}
use Rattle.rt_segment.specs.Segment.{SealedSegment, rows_of}
use Rattle.rt_stream.specs.Log.{messages_of}
use Rattle.rt_model.specs.declared.piece.Piece.{Piece}
use Rattle.rt_model.specs.declared.query.Query.{Query}
use Rattle.rt_model.specs.declared.seg_meta.SeenMeta.{SeenMeta}
use Rattle.rt_model.specs.declared.setup.Setup.{Setup}
use Rattle.rt_model.specs.Aggregate.{taken}
use Rattle.rt_agg.specs.declared.served.Served.{Served}
use Rattle.rt_agg.specs.Grouped.{Holds}
use Rattle.rt_past.specs.Past.{Past}
use Rattle.rt_past.specs.Segments.{IsBegun}
use Rattle.rt_replica.specs.HeldSoFar.{IsReached}
use Rattle.rt_replica.specs.Own.{WasTold}
use Rattle.rt_entry.specs.declared.served_rows.ServedRows.{ServedRows}
use Rattle.rt_server.specs.LastingRows.{AreRightRows}
use Rattle.rt_server.specs.Own.{IsHad}

-- a range begins with the piece, and ends with it where the piece has an end
pub record IsRangeOf (piece : Piece) (range : Range) : Type 0 where
  pub start : range.start ≡ piece.start
  pub end : IfSome piece.end (λ end. range.end ≡ end)

-- the rows are those of the messages of the range; where it isn't empty, these messages are there
pub record AreRowsSoFar (schema : Schema) (messages : List (List ℕ)) (piece : Piece) (served : ServedRows) : Type 0 where
  pub range : IsRangeOf piece served.range
  pub ordered : served.range.start.0 ≤ served.range.end.0
  pub within : IsReached messages served.range.start served.range.end
  pub rows : served.rows ≡ rows_in schema messages served.range.start.0 served.range.end.0

-- a replica's: the rows of the messages that were seen, from where the segment's node was created
pub record IsFromReplica (setup : Setup) (view : Past) (piece : Piece) (served : ServedRows) : Type 0 where
  pub begun : IsBegun view.history piece.partition piece.sequence piece.start
  pub rows : AreRowsSoFar setup.schema (messages_of view.log piece.partition) piece served

-- a file's: all rows of the file of a commit that was told of
pub record IsFromFile (setup : Setup) (view : Past) (piece : Piece) (served : ServedRows) : Type 0 where
  pub done : SeenMeta
  pub told : WasTold view piece.partition piece.sequence done
  pub file : SealedSegment
  pub had : IsHad setup view piece.partition piece.sequence done file
  pub range : IsRangeOf piece served.range
  pub whole : (served.range.start ≡ file.range.start) × (served.range.end ≡ file.range.end)
  pub rows : served.rows ≡ rows_of file

-- the groups are those of the rows that the query takes, and the rows are a replica's or a file's
pub record IsGivenRight (setup : Setup) (view : Past) (query : Query) (piece : Piece) (served : Served) : Type 0 where
  pub partition : piece.partition.0 < setup.partitions
  pub rows : ServedRows
  pub range : served.range ≡ rows.range
  pub groups : Holds query (taken query rows.rows) served.groups
  pub from : IsFromReplica setup view piece rows ⊎ IsFromFile setup view piece rows

-- the groups are those of the stream's rows there
pub record IsRightAnswer (setup : Setup) (past : Past) (query : Query) (piece : Piece) (served : Served) : Type 0 where
  pub rows : ServedRows
  pub range : served.range ≡ rows.range
  pub groups : Holds query (taken query rows.rows) served.groups
  pub right : AreRightRows setup.schema (messages_of past.log piece.partition) piece rows
