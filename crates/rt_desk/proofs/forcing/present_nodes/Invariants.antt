use Rattle.std.proofs.Common.{◌≡◌, ◌-◌, ◌≤◌, ◌++◌}
use Rattle.rt_desk.specs.Forcing.{nodes_from}
use Rattle.rt_desk.proofs.forcing.present_nodes.Given as goal

abbrev pub invariant-loop-at : goal.invariant-loop-at
invariant-loop-at l = record {
  within : l.at ≤ l.partitions;
  so : nodes_from l.world.state 0 l.partitions ≡ l.nodes ++ nodes_from l.world.state l.at (l.partitions - l.at);
}

abbrev pub decreases-loop-at : goal.decreases-loop-at
decreases-loop-at l = l.partitions - l.at
