use Rattle.std.proofs.Common.{◌≡◌, ◌≤◌, ◌-◌, take, drop}
use Rattle.rt_stream.proofs.partition_log.PartitionLog.copied_from.Given as goal

-- the copies are the messages so far
abbrev pub invariant-loop-offset : goal.invariant-loop-offset
invariant-loop-offset l = record {
  begun : l.from ≤ l.offset;
  within : l.offset ≤ l.end;
  copies : l.messages ≡ take (l.offset - l.from) (drop l.from l.self);
}

abbrev pub decreases-loop-offset : goal.decreases-loop-offset
decreases-loop-offset l = l.end - l.offset
