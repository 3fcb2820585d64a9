use Rattle.std.proofs.Common.{◌≡◌, ◌++◌, length}
use Rattle.rt_rebalance.specs.Target.{target_of}
use Rattle.rt_rebalance.proofs.targets.target_of.Given as goal

abbrev pub invariant-loop-later : goal.invariant-loop-later
invariant-loop-later l = l.entries ++ target_of l.replication l.servers l.later ≡ target_of l.replication l.servers l.current

abbrev pub decreases-loop-later : goal.decreases-loop-later
decreases-loop-later l = length l.later
