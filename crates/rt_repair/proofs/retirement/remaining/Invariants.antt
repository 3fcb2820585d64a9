use Rattle.std.proofs.Common.{◌≡◌, ◌≤◌, ◌+◌, drop, length}
use Rattle.rt_model.specs.Ideal.{remove_segment_of}
use Rattle.rt_repair.proofs.retirement.remaining.Given as goal

-- those counted, and those of the rest that stay, are all that stay
abbrev pub invariant-loop-entry : goal.invariant-loop-entry
invariant-loop-entry l = record {
  counted : l.count + length (remove_segment_of (drop l.entry-index l.entries) l.partition l.sequence)
      ≡ length (remove_segment_of l.entries l.partition l.sequence);
  few : l.count ≤ l.entry-index;
}
