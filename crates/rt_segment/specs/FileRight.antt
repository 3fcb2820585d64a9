-- When a file is right of a partition's log.
use Rattle.std.specs.Prelude.{◌≡◌, ℕ, ◌<◌, ◌≤◌, true, List, length}
use Rattle.rt_base.specs.declared.numbers.Partition.{Partition}
use Rattle.rt_base.specs.declared.numbers.Sequence.{Sequence}
use Rattle.rt_base.specs.declared.range.Range.{Range}
use Rattle.rt_schema.specs.Row.{rows_in}
use Rattle.rt_schema.specs.declared.schema.Schema.{Schema}
use Rattle.rt_segment.specs.Segment.{SealedSegment, IsSealed, rows_of, are_columns}
use Rattle.rt_segment.specs.Spelling.{file_of}

-- the file of this node and range, with the rows of the log's messages there
pub record FileRight (schema : Schema) (messages : List (List ℕ)) (partition : Partition) (sequence : Sequence) (range : Range) (file : List ℕ) : Type 0 where
  pub segment : SealedSegment
  pub «sealed» : IsSealed segment
  pub spelled : file ≡ file_of segment
  pub header : (segment.partition ≡ partition) × (segment.sequence ≡ sequence) × (segment.range ≡ range)
  pub within : (range.start.0 < range.end.0) × (range.end.0 ≤ length messages)
  pub columns : are_columns segment.columns schema.columns ≡ true
  pub rows : rows_of segment ≡ rows_in schema messages range.start.0 range.end.0
