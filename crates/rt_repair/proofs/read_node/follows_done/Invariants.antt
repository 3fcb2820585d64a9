use Rattle.std.proofs.Common.{◌≡◌, drop}
use Rattle.rt_repair.specs.ReadNode.{follows_done}
use Rattle.rt_repair.proofs.read_node.follows_done.Given as goal

-- none so far is the segment before, Done
abbrev pub invariant-loop-node : goal.invariant-loop-node
invariant-loop-node l = follows_done l.nodes l.sequence ≡ follows_done (drop l.node-index l.nodes) l.sequence
