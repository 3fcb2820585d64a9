use Rattle.std.proofs.Common.{◌≡◌}
use Rattle.rt_nodes.specs.Fresh.{fresh_upkeep}
use Rattle.rt_nodes.proofs.fresh.first_upkeep.Given as goal

-- the partitions so far
abbrev pub invariant-loop-partition : goal.invariant-loop-partition
invariant-loop-partition l = l.upkeep ≡ fresh_upkeep l._partition
