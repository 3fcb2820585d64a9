-- Offsets that a replica can come to.
use Rattle.std.specs.Prelude.{◌-◌, ◌<◌, ◌≤◌, List, ℕ, length}
use Rattle.rt_base.specs.declared.limits.TheConstants.{MOST_ROWS}
use Rattle.rt_base.specs.declared.numbers.Offset.{Offset}
use Rattle.rt_base.specs.declared.numbers.Partition.{Partition}
use Rattle.rt_base.specs.declared.numbers.Sequence.{Sequence}
use Rattle.rt_model.specs.declared.setup.Setup.{Setup}
use Rattle.rt_past.specs.Past.{Past}
use Rattle.rt_past.specs.Segments.{IsBegun}
use Rattle.rt_schema.specs.Row.{rows_in}
use Rattle.rt_schema.specs.declared.schema.Schema.{Schema}
use Rattle.rt_stream.specs.Log.{messages_of}

-- an offset lies within the log, and before the last message below it come fewer rows than a segment has at most
pub record IsReachable (schema : Schema) (messages : List (List ℕ)) (start x : Offset) : Type 0 where
  pub within : x.0 ≤ length messages
  pub room : length (rows_in schema messages start.0 (x.0 - 1)) < MOST_ROWS

-- a replica of the segment can come to an offset: to one past the segment's start there is a way
pub record ComesTo (setup : Setup) (past : Past) (p : Partition) (q : Sequence) (x : Offset) : Type 0 where
  pub start : Offset
  pub begun : IsBegun past.history p q start
  pub reaches : start.0 < x.0 → IsReachable setup.schema (messages_of past.log p) start x
