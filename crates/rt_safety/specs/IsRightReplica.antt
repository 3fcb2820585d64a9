-- When a replica of a server has what it is to have.
use Rattle.std.specs.Prelude.{◌≡◌}
use Rattle.rt_base.specs.declared.numbers.Partition.{Partition}
use Rattle.rt_base.specs.declared.numbers.Sequence.{Sequence}
use Rattle.rt_past.specs.Segments.{IsBegun}
use Rattle.rt_consumer.specs.Consumer.{settings_of}
use Rattle.rt_replica.specs.Held.{IsHeld}
use Rattle.rt_consumer.specs.declared.consumer.Consumer.{Consumer}
use Rattle.rt_server.specs.Table.{segment_of}
use Rattle.rt_state.specs.declared.state.State.{State}

-- it is of the segment, over the setup's schema; it starts where its segment's node was created; and it holds the rows of all
-- messages of the stream from there up to where it is
pub record IsRightReplica (w : State) (p : Partition) (q : Sequence) (r : Consumer) : Type 0 where
  pub segment : segment_of r ≡ (p, q)
  pub settings : r.settings ≡ settings_of w.setup
  pub begun : IsBegun w.store.writes r.partition r.sequence r.start
  pub held : IsHeld w.log r
