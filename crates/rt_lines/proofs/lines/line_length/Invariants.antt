use Rattle.std.proofs.Common.{◌≡◌, ◌+◌, drop}
use Rattle.rt_lines.specs.Lines.{length_of_line}
use Rattle.rt_lines.proofs.lines.line_length.Given as goal

abbrev pub invariant-loop-end : goal.invariant-loop-end
invariant-loop-end l = length_of_line l.bytes ≡ length_of_line (drop l.end l.bytes) + l.end
