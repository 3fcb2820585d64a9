use Rattle.std.proofs.Common.{◌≡◌, ◌≤◌, length}
use Rattle.rt_dryrun.specs.Peers.{others_below}
use Rattle.rt_dryrun.proofs.nodes.others_of.Given as goal

abbrev pub invariant-loop-number : goal.invariant-loop-number
invariant-loop-number l = record {
  found : l.others.items ≡ others_below l.world.state l.instance l.number;
  few : length l.others.items ≤ l.number;
}
