use Rattle.std.proofs.Common.{◌≡◌, ◌++◌, drop}
use Rattle.rt_live_names.specs.Whole.{whole_from}
use Rattle.rt_live_broker.proofs.whole.whole_ranges.Given as goal

-- what is left of the partitions has the rest
abbrev pub invariant-loop-number : goal.invariant-loop-number
invariant-loop-number l = l.ranges ++ whole_from l.number (drop l.number l.lengths) ≡ whole_from 0 l.lengths
