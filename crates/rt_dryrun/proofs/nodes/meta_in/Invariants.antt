use Rattle.std.proofs.Common.{◌≡◌, drop}
use Rattle.rt_dryrun.specs.Peers.{meta_in}
use Rattle.rt_dryrun.proofs.nodes.meta_in.Given as goal

abbrev pub invariant-loop-node : goal.invariant-loop-node
invariant-loop-node l = meta_in (drop l.node-index l.nodes) l.sequence ≡ meta_in l.nodes l.sequence
