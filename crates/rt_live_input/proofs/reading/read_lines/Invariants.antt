use Rattle.std.proofs.Common.{◌≡◌, length}
use Rattle.rt_live_input.specs.Gathering.{gathered}
use Rattle.rt_live_input.proofs.reading.read_lines.Given as goal
use Rattle.rt_model.specs.Setup.{IsSetup}

abbrev pub invariant-loop-number : goal.invariant-loop-number
invariant-loop-number l = record { setup : IsSetup l.input.setup; same : gathered l.input l.lines.lines ≡ gathered l.initial.input l.initial.lines.lines }

abbrev pub decreases-loop-number : goal.decreases-loop-number
decreases-loop-number l = length l.lines.lines
