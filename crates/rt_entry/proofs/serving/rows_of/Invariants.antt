use Rattle.std.proofs.Common.{◌≡◌, take}
use Rattle.rt_segment.specs.Segment.{rows_of}
use Rattle.rt_entry.proofs.serving.rows_of.Given as goal

abbrev pub invariant-loop-number : goal.invariant-loop-number
invariant-loop-number l = l.copies ≡ take l.number (rows_of l.file)
