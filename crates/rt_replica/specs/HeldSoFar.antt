-- What a replica holds of the log, as far as its server has seen the log: it may end before the replica's start.
use Rattle.std.specs.Prelude.{◌≡◌, ◌+◌, ◌-◌, ◌≤◌, ℕ, List, length}
use Rattle.rt_base.specs.declared.numbers.Offset.{Offset}
use Rattle.rt_schema.specs.declared.schema.Schema.{Schema}
use Rattle.rt_schema.specs.Row.{rows_in}
use Rattle.rt_mutable.specs.Consuming.{Consuming}
use Rattle.rt_segment.specs.Segment.{SealedSegment, rows_of}
use Rattle.rt_stream.specs.Log.{Log, messages_of}
use Rattle.rt_consumer.specs.declared.phase.Phase.{Phase}
use Rattle.rt_consumer.specs.declared.phase.Phase.TheVariants as phase
use Rattle.rt_consumer.specs.declared.consumer.Consumer.{Consumer}
use Rattle.rt_replica.specs.Held.{messages_between, placed_from}

-- an offset is a start, or lies behind it and within these messages
abbrev pub IsReached : List (List ℕ) → Offset → Offset → Type 0
IsReached messages start end = end.0 ≤ start.0 + (length messages - start.0)

pub record HoldsSoFar (schema : Schema) (messages : List (List ℕ)) (start : Offset) (rows : Consuming) : Type 0 where
  pub ordered : start.0 ≤ rows.end.0
  pub within : IsReached messages start rows.end
  pub all : rows.rows ≡ placed_from schema start.0 (messages_between messages start.0 rows.end.0)

pub record HoldsFileSoFar (schema : Schema) (messages : List (List ℕ)) (start : Offset) (file : SealedSegment) : Type 0 where
  pub ordered : start.0 ≤ file.range.end.0
  pub within : IsReached messages start file.range.end
  pub rows : rows_of file ≡ rows_in schema messages start.0 file.range.end.0

abbrev pub HoldsInSoFar : Schema → List (List ℕ) → Offset → Phase → Type 0
HoldsInSoFar schema messages start (phase.Unsealed o) = HoldsSoFar schema messages start o.rows
HoldsInSoFar schema messages start (phase.Retained kept) = HoldsFileSoFar schema messages start kept.file
HoldsInSoFar schema messages start (phase.Committed kept) = HoldsFileSoFar schema messages start kept.file
HoldsInSoFar schema messages start (phase.Discarded d) = (start.0 ≤ d.cur.0) × IsReached messages start d.cur

abbrev pub IsHeldSoFar : Log → Consumer → Type 0
IsHeldSoFar log r = HoldsInSoFar r.settings.schema (messages_of log r.partition) r.start r.phase
