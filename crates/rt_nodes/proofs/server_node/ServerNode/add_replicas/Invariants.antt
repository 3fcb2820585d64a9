use Rattle.std.proofs.Common.{◌≡◌, ◌≤◌, ◌++◌, drop, length}
use Rattle.rt_nodes.specs.Reading.{seen_among}
use Rattle.rt_nodes.proofs.server_node.ServerNode.add_replicas.Given as goal

-- those so far, and the rest, behind the earlier ones
abbrev pub invariant-loop-segment : goal.invariant-loop-segment
invariant-loop-segment l =
    (l.seen ++ seen_among l.instance l.self.server.table (drop l.segment-index l.segment-items)
    ≡ l.initial.seen ++ seen_among l.instance l.self.server.table l.segment-items)
    × (length l.initial.seen ≤ length l.seen)
