-- What is held is held so far, and what is held so far is held where the replica starts within the log.
use Rattle.std.proofs.Common.{◌≤◌, ℕ, List, length, arith}
use Rattle.rt_base.specs.declared.numbers.Offset.{Offset}
use Rattle.rt_schema.specs.declared.schema.Schema.{Schema}
use Rattle.rt_mutable.specs.Consuming.{Consuming}
use Rattle.rt_segment.specs.Segment.{SealedSegment}
use Rattle.rt_stream.specs.Log.{Log, messages_of}
use Rattle.rt_consumer.specs.declared.phase.Phase.{Phase}
use Rattle.rt_consumer.specs.declared.phase.Phase.TheVariants as phase
use Rattle.rt_consumer.specs.declared.consumer.Consumer.{Consumer}
use Rattle.rt_replica.specs.Held.{IsHeld, HoldsIn, HoldsRows, HoldsFile}
use Rattle.rt_replica.specs.HeldSoFar.{IsHeldSoFar, HoldsInSoFar, HoldsSoFar, HoldsFileSoFar}

pub rows_forget : (schema : Schema) (ms : List (List ℕ)) (start : Offset) (rows : Consuming) → HoldsRows schema ms start rows → HoldsSoFar schema ms start rows
rows_forget schema ms start rows h = record { ordered = h.ordered; within = omega (arith, h.ordered, h.within); all = h.all }

pub file_forget : (schema : Schema) (ms : List (List ℕ)) (start : Offset) (file : SealedSegment) → HoldsFile schema ms start file → HoldsFileSoFar schema ms start file
file_forget schema ms start file h = record { ordered = h.ordered; within = omega (arith, h.ordered, h.within); rows = h.rows }

pub file_back : (schema : Schema) (ms : List (List ℕ)) (start : Offset) (file : SealedSegment) → start.0 ≤ length ms → HoldsFileSoFar schema ms start file → HoldsFile schema ms start file
file_back schema ms start file le h = record { ordered = h.ordered; within = omega (arith, h.within, le); rows = h.rows }

module _ (schema : Schema) (ms : List (List ℕ)) (start : Offset) where
  in_forget : (ph : Phase) → HoldsIn schema ms start ph → HoldsInSoFar schema ms start ph
  in_forget (phase.Unsealed o) h = rows_forget schema ms start o.rows h
  in_forget (phase.Retained kept) h = file_forget schema ms start kept.file h
  in_forget (phase.Committed kept) h = file_forget schema ms start kept.file h
  in_forget (phase.Discarded d) h = (h.0, omega (arith, h.0, h.1))

  in_back : (ph : Phase) → start.0 ≤ length ms → HoldsInSoFar schema ms start ph → HoldsIn schema ms start ph
  in_back (phase.Unsealed o) le h = record { ordered = h.ordered; within = omega (arith, h.within, le); all = h.all }
  in_back (phase.Retained kept) le h = file_back schema ms start kept.file le h
  in_back (phase.Committed kept) le h = file_back schema ms start kept.file le h
  in_back (phase.Discarded d) le h = (h.0, omega (arith, h.1, le))

  in_starts : (ph : Phase) → HoldsIn schema ms start ph → start.0 ≤ length ms
  in_starts (phase.Unsealed o) h = omega (arith, h.ordered, h.within)
  in_starts (phase.Retained kept) h = omega (arith, h.ordered, h.within)
  in_starts (phase.Committed kept) h = omega (arith, h.ordered, h.within)
  in_starts (phase.Discarded d) h = omega (arith, h.0, h.1)

pub forget : (log : Log) (r : Consumer) → IsHeld log r → IsHeldSoFar log r
forget log r h = in_forget r.settings.schema (messages_of log r.partition) r.start r.phase h

pub back : (log : Log) (r : Consumer) → r.start.0 ≤ length (messages_of log r.partition) → IsHeldSoFar log r → IsHeld log r
back log r le h = in_back r.settings.schema (messages_of log r.partition) r.start r.phase le h

pub starts : (log : Log) (r : Consumer) → IsHeld log r → r.start.0 ≤ length (messages_of log r.partition)
starts log r h = in_starts r.settings.schema (messages_of log r.partition) r.start r.phase h
