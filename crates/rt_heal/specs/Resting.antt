-- When a server has nothing to do, and what it serves.
use Rattle.std.specs.Prelude.{◌≡◌, ◌&&◌, true, false, Some, Ok}
use Rattle.rt_base.specs.declared.numbers.Moment.{Moment}
use Rattle.rt_base.specs.declared.numbers.Partition.{Partition}
use Rattle.rt_base.specs.declared.numbers.Sequence.{Sequence}
use Rattle.rt_base.specs.declared.range.Range.{Range}
use Rattle.rt_consumer.specs.Consumer.{cur, state_of}
use Rattle.rt_consumer.specs.Next.{takes_in}
use Rattle.rt_consumer.specs.Requests.{asks_now, builds_in, is_ready}
use Rattle.rt_consumer.specs.declared.consumer.Consumer.{Consumer}
use Rattle.rt_entry.specs.declared.served_rows.ServedRows.{ServedRows}
use Rattle.rt_model.specs.Entries.{entries_of}
use Rattle.rt_model.specs.declared.piece.Piece.{Piece}
use Rattle.rt_model.specs.declared.replica_state.ReplicaState.TheVariants as state
use Rattle.rt_model.specs.declared.setup.Setup.{Setup}
use Rattle.rt_past.specs.Past.{Past}
use Rattle.rt_schema.specs.Row.{rows_in}
use Rattle.rt_server.specs.Calls.{targets_of}
use Rattle.rt_server.specs.Serving.{serve}
use Rattle.rt_server.specs.Table.{Segments, ServerState, entry_of, replica_of, wants_at}
use Rattle.rt_server.specs.Transition.{transit_due}
use Rattle.rt_stream.specs.Log.{Log, end_of, messages_of}

-- a replica for which there is no message to take, and which neither builds nor asks
pub record IsIdle (log : Log) (now : Moment) (r : Consumer) : Type 0 where
  pub taken : takes_in (state_of r.phase) && is_ready r (end_of (messages_of log r.partition)) now ≡ false
  pub built : builds_in r.phase ≡ false
  pub asked : asks_now r.phase ≡ false

-- a server that has seen the present ideal state, for which no transition is due and no file wanted, and whose replicas are idle
pub record RestsOver (past : Past) (now : Moment) (s : ServerState) : Type 0 where
  pub seen : s.table.targets ≡ targets_of s.numbers.instance (entries_of past.history)
  pub moved : (p : Partition) (q : Sequence) → transit_due s.table p q ≡ false
  pub loaded : (p : Partition) (q : Sequence) → wants_at (entry_of s.table p q) ≡ false
  pub replicas : (p : Partition) (q : Sequence) (r : Consumer) → replica_of s.table p q ≡ Some r → IsIdle past.log now r

-- a piece is served over this range, with the stream's rows there
pub record ServesOver (setup : Setup) (past : Past) (t : Segments) (piece : Piece) (range : Range) : Type 0 where
  pub served : ServedRows
  pub gives : serve t piece ≡ Ok served
  pub whole : served.range ≡ range
  pub rows : served.rows ≡ rows_in setup.schema (messages_of past.log piece.partition) range.start.0 range.end.0

-- a replica of the segment takes messages, and has taken every one
pub record HasTakenAll (past : Past) (t : Segments) (p : Partition) (q : Sequence) : Type 0 where
  pub replica : Consumer
  pub there : replica_of t p q ≡ Some replica
  pub takes : takes_in (state_of replica.phase) ≡ true
  pub all : cur replica ≡ end_of (messages_of past.log p)

-- a replica of the segment has dropped its rows, and asks nothing any more
pub record HasDropped (t : Segments) (p : Partition) (q : Sequence) : Type 0 where
  pub replica : Consumer
  pub there : replica_of t p q ≡ Some replica
  pub dropped : state_of replica.phase ≡ state.Discarded
