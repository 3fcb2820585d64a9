-- What a replica holds of the log: the rows of all messages from its start up to `cur`.
use Rattle.std.specs.Prelude.{◌≡◌, ◌+◌, ◌-◌, ◌≤◌, ℕ, List, [], ◌∷◌, ◌++◌, length, take, drop, Option, Some, None}
use Rattle.rt_base.specs.declared.numbers.Offset.{Offset}
use Rattle.rt_schema.specs.declared.row.Row.{Row}
use Rattle.rt_schema.specs.declared.schema.Schema.{Schema}
use Rattle.rt_schema.specs.Row.{row_of, rows_in}
use Rattle.rt_mutable.specs.Consuming.{Consuming, Placed}
use Rattle.rt_segment.specs.Segment.{SealedSegment, rows_of}
use Rattle.rt_stream.specs.Log.{Log, messages_of}
use Rattle.rt_consumer.specs.declared.phase.Phase.{Phase}
use Rattle.rt_consumer.specs.declared.phase.Phase.TheVariants as phase
use Rattle.rt_consumer.specs.declared.consumer.Consumer.{Consumer}

-- the messages of a partition from one offset up to another
abbrev pub messages_between : List (List ℕ) → ℕ → ℕ → List (List ℕ)
messages_between messages start end = take (end - start) (drop start messages)

-- the row of a message with the message's offset, where the message is decodable
abbrev pub placed_row : ℕ → Option Row → List Placed
placed_row offset None = []
placed_row offset (Some row) = record { offset = record { 0 = offset }; row = row } ∷ []

-- the rows of messages, each with its message's offset, from a first offset on
abbrev pub placed_from : Schema → ℕ → List (List ℕ) → List Placed
placed_from schema offset [] = []
placed_from schema offset (m ∷ ms) = placed_row offset (row_of schema m) ++ placed_from schema (offset + 1) ms

-- rows by column, each with its message's offset
pub record HoldsRows (schema : Schema) (messages : List (List ℕ)) (start : Offset) (rows : Consuming) : Type 0 where
  pub ordered : start.0 ≤ rows.end.0
  pub within : rows.end.0 ≤ length messages
  pub all : rows.rows ≡ placed_from schema start.0 (messages_between messages start.0 rows.end.0)

-- sealed rows
pub record HoldsFile (schema : Schema) (messages : List (List ℕ)) (start : Offset) (file : SealedSegment) : Type 0 where
  pub ordered : start.0 ≤ file.range.end.0
  pub within : file.range.end.0 ≤ length messages
  pub rows : rows_of file ≡ rows_in schema messages start.0 file.range.end.0

abbrev pub HoldsIn : Schema → List (List ℕ) → Offset → Phase → Type 0
HoldsIn schema messages start (phase.Unsealed o) = HoldsRows schema messages start o.rows
HoldsIn schema messages start (phase.Retained kept) = HoldsFile schema messages start kept.file
HoldsIn schema messages start (phase.Committed kept) = HoldsFile schema messages start kept.file
HoldsIn schema messages start (phase.Discarded d) = (start.0 ≤ d.cur.0) × (d.cur.0 ≤ length messages)

abbrev pub IsHeld : Log → Consumer → Type 0
IsHeld log r = HoldsIn r.settings.schema (messages_of log r.partition) r.start r.phase
