use Rattle.std.proofs.Common.{◌≡◌, replicate, take}
use Rattle.rt_live_names.specs.Whole.{lengths_in, no_offset}
use Rattle.rt_live_broker.proofs.whole.lengths_of.Given as goal

-- no message was counted yet
abbrev pub invariant-loop-partition : goal.invariant-loop-partition
invariant-loop-partition l = l.lengths ≡ replicate l._partition no_offset

-- the messages so far were counted
abbrev pub invariant-loop-row : goal.invariant-loop-row
invariant-loop-row l = l.lengths ≡ lengths_in l.partitions (take l.row-index l.rows)
