use Rattle.std.proofs.Common.{◌≡◌, ◌+◌, ◌<◌, ◌^◌, length}
use Rattle.rt_lines.specs.Lines.{lines_from}
use Rattle.rt_lines.proofs.lines.past_skipped.Given as goal

abbrev pub invariant-loop-line : goal.invariant-loop-line
invariant-loop-line l = record { same : lines_from l.number l.rest ≡ lines_from l.first l.bytes; fits : l.number + length l.rest < 2 ^ 64 }

abbrev pub decreases-loop-line : goal.decreases-loop-line
decreases-loop-line l = length l.rest
