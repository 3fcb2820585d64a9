use Rattle.std.proofs.Common.{◌≡◌, map}
use Rattle.std.specs.List.{range_with_len}
use Rattle.rt_live_end.specs.Ends.{end_in}
use Rattle.rt_live.proofs.committed.ends_of.Given as goal

-- the ends of the first partitions
abbrev pub invariant-loop-partition : goal.invariant-loop-partition
invariant-loop-partition l = l.ends.items ≡ map (end_in l.history) (range_with_len 0 l.partition)
