-- Which files are right, and which file a commit names.
use Rattle.std.specs.Prelude.{◌≡◌, ℕ, All, List, Option, Some, None, Result, Ok, Err}
use Rattle.rt_base.specs.declared.header.Header.{Header}
use Rattle.rt_base.specs.declared.numbers.Offset.{Offset}
use Rattle.rt_base.specs.declared.numbers.Partition.{Partition}
use Rattle.rt_base.specs.declared.numbers.Sequence.{Sequence}
use Rattle.rt_base.specs.declared.range.Range.{Range}
use Rattle.rt_model.specs.declared.commit.Commit.{Commit}
use Rattle.rt_model.specs.declared.setup.Setup.{Setup}
use Rattle.rt_stream.specs.Log.{messages_of}
use Rattle.rt_deep.specs.declared.deep_put.DeepPut.{DeepPut}
use Rattle.rt_deep.specs.Files.{file_of}
use Rattle.rt_schema.specs.Schema.{is_among}
use Rattle.rt_segment.specs.declared.segment_refused.SegmentRefused.{SegmentRefused}
use Rattle.rt_segment.specs.Column.{SealedColumn}
use Rattle.rt_segment.specs.FileRight.{FileRight}
use Rattle.rt_segment.specs.Reading.{read_file}
use Rattle.rt_segment.specs.Segment.{SealedSegment}
use Rattle.rt_segment.specs.Spelling.{header_of}
use Rattle.rt_past.specs.Past.{Past}
use Rattle.rt_past.specs.Segments.{IsBegun}

abbrev pub range_to : Offset → Offset → Range
range_to start end = record { start = start; end = end }

-- a column has an index exactly where it has one of these names
abbrev pub IsIndexed : List (List ℕ) → SealedColumn → Type 0
IsIndexed names column = column.indexed ≡ is_among column.name names

-- a segment's file in the setup's format, with an index for the columns that the table's settings name, and the stream's rows
-- from the offset at which its node was created up to another one
pub record IsRightFile (setup : Setup) (past : Past) (p : Partition) (s : Sequence) (start end : Offset) (bytes : List ℕ) : Type 0 where
  pub file : FileRight setup.schema (messages_of past.log p) p s (range_to start end) bytes
  pub begun : IsBegun past.history p s start
  pub format : file.segment.format ≡ setup.format
  pub indexed : All (IsIndexed setup.table.indexed) file.segment.columns

-- these bytes stand at the path
abbrev pub Stands : List DeepPut → List ℕ → List ℕ → Type 0
Stands files path bytes = file_of files path ≡ Some (record { path = path; bytes = bytes })

-- the header of what was read
abbrev pub header_by : Result SealedSegment SegmentRefused → Option Header
header_by (Ok segment) = Some (header_of segment)
header_by (Err refused) = None

-- the header of bytes that are a segment's file
abbrev pub header_in : List ℕ → Option Header
header_in bytes = header_by (read_file bytes)

abbrev pub header_named : Partition → Sequence → Offset → Commit → Header
header_named p s start commit =
    record { partition = p; sequence = s; range = range_to start commit.end; rows = commit.rows; digest = commit.digest }

-- a right file of the segment stands at the path that a commit names, with the digest and the count of rows that it names
pub record IsStored (setup : Setup) (past : Past) (p : Partition) (s : Sequence) (start : Offset) (commit : Commit) : Type 0 where
  pub bytes : List ℕ
  pub stands : Stands past.files commit.path bytes
  pub right : IsRightFile setup past p s start commit.end bytes
  pub header : header_of right.file.segment ≡ header_named p s start commit
