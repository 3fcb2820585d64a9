-- What is told of a node.
use Rattle.std.specs.Prelude.{Bool, Err, List, None, Ok, Option, Result, Some, [], if◌then◌else◌, option_map, ℕ, ◌&&◌, ◌++◌, ◌∷◌}
use Rattle.rt_base.specs.declared.numbers.Instance.{Instance}
use Rattle.rt_base.specs.declared.numbers.Partition.{Partition}
use Rattle.rt_base.specs.declared.numbers.Sequence.{Sequence}
use Rattle.rt_model.specs.declared.piece.Piece.{Piece}
use Rattle.rt_pause.specs.declared.replica_seen.ReplicaSeen.{ReplicaSeen}
use Rattle.rt_consumer.specs.Consumer.{cur, state_of}
use Rattle.rt_consumer.specs.declared.consumer.Consumer.{Consumer}
use Rattle.rt_segment.specs.Segment.{SealedSegment}
use Rattle.rt_segment.specs.Spelling.{file_of as bytes_of}
use Rattle.rt_server.specs.Due.{held_of}
use Rattle.rt_server.specs.Serving.{serve}
use Rattle.rt_server.specs.Table.{Segment, Segments, replica_of, entry_of, file_at}
use Rattle.rt_entry.specs.declared.refused.ServeRefused.{ServeRefused}
use Rattle.rt_entry.specs.declared.served_rows.ServedRows.{ServedRows}
use Rattle.rt_nodes.specs.declared.controller_node.ControllerNode.{ControllerNode}
use Rattle.rt_nodes.specs.declared.server_node.ServerNode.{ServerNode}
pub use Rattle.rt_server.specs.Resting.{rests_by, stage_of}

abbrev pub leads : ControllerNode → Bool
leads n = n.up && n.controller.leads

abbrev pub stands : ControllerNode → Bool
stands n = n.up

abbrev pub rows_by : Result ServedRows ServeRefused → Option ServedRows
rows_by (Ok rows) = Some rows
rows_by (Err e) = None

abbrev pub rows_of_node : Option ServerNode → Piece → Option ServedRows
rows_of_node None piece = None
rows_of_node (Some n) piece = if n.up then rows_by (serve n.server.table piece) else None

abbrev pub seen_as : Instance → Segment → Option Consumer → List ReplicaSeen
seen_as i s None = []
seen_as i s (Some r) =
    record { instance = i; partition = s.0; sequence = s.1; state = state_of r.phase; cur = cur r } ∷ []

abbrev pub seen_among : Instance → Segments → List Segment → List ReplicaSeen
seen_among i t [] = []
seen_among i t (s ∷ ss) = seen_as i s (replica_of t s.0 s.1) ++ seen_among i t ss

abbrev pub seen_of : Instance → ServerNode → List ReplicaSeen
seen_of i n = if n.up then seen_among i n.server.table (held_of n.server.table) else []

-- where the replica of a segment stands, at a server that is up
abbrev pub replica_up : Option ServerNode → Partition → Sequence → Option Consumer
replica_up None p q = None
replica_up (Some n) p q = if n.up then replica_of n.server.table p q else None

-- whether a segment has a replica at rest, at a server that is up
abbrev pub rests_up : Option ServerNode → Segment → Bool
rests_up o s = rests_by (replica_up o s.0 s.1)

abbrev pub file_in : Option ServerNode → Partition → Sequence → Option SealedSegment
file_in None p q = None
file_in (Some n) p q = if n.up then file_at (entry_of n.server.table p q) else None

abbrev pub file_bytes : Option SealedSegment → Option (List ℕ)
file_bytes file = option_map bytes_of file
