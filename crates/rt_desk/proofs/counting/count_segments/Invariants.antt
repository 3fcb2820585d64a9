use Rattle.std.proofs.Common.{◌≡◌, ◌-◌, ◌≤◌, length, take}
use Rattle.rt_desk.proofs.counting.count_segments.Given as goal
use Rattle.rt_pause.specs.Forced.{segments_of}

abbrev pub invariant-loop-at : goal.invariant-loop-at
invariant-loop-at l = record {
  within : l.at ≤ length l.replicas;
  few : l.count ≤ l.at;
  count : l.count ≡ length (segments_of (take l.at l.replicas));
}

abbrev pub decreases-loop-at : goal.decreases-loop-at
decreases-loop-at l = length l.replicas - l.at
