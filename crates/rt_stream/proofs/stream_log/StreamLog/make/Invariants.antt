use Rattle.std.proofs.Common.{◌≡◌, ◌≤◌, ◌+◌, ◌-◌, [], replicate, vec_len, vec_capacity}
use Rattle.rt_stream.proofs.stream_log.StreamLog.make.Given as goal

-- the partitions so far are empty, and there is room for the rest
abbrev pub invariant-loop-partition : goal.invariant-loop-partition
invariant-loop-partition l = record {
  empty : l.made.items ≡ replicate l._partition [];
  room : vec_len l.made + (l.partitions - l._partition) ≤ vec_capacity l.made;
}
