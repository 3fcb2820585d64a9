use Rattle.std.proofs.Common.{length}
use Rattle.rt_calls.proofs.answer_all.Given as goal

abbrev pub decreases-loop-number : goal.decreases-loop-number
decreases-loop-number g l = length l.lines.lines
