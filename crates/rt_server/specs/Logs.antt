-- What a server's caller has seen of the stream.
use Rattle.std.specs.Prelude.{◌≡◌, ◌<◌, ◌≤◌, length, Some}
use Rattle.rt_base.specs.declared.numbers.Partition.{Partition}
use Rattle.rt_base.specs.declared.numbers.Sequence.{Sequence}
use Rattle.rt_stream.specs.Log.{Log, messages_of}
use Rattle.rt_consumer.specs.declared.consumer.Consumer.{Consumer}
use Rattle.rt_consumer.specs.Consumer.{cur}
use Rattle.rt_server.specs.Table.{Segments, replica_of}

-- the log has the partition of the segment's replica, where there is one, with all messages that it took
abbrev pub HasMessages : Log → Segments → Partition → Sequence → Type 0
HasMessages log t p q =
    (r : Consumer) → replica_of t p q ≡ Some r → (r.partition.0 < length log) × ((cur r).0 ≤ length (messages_of log r.partition))
