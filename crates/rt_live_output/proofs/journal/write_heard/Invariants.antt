use Rattle.std.proofs.Common.{◌≡◌, ◌++◌, take, string_bytes}
use Rattle.rt_live_output.specs.Texts.{heard_lines}
use Rattle.rt_live_output.proofs.journal.write_heard.Given as goal

abbrev pub invariant-loop-controller : goal.invariant-loop-controller
invariant-loop-controller l = string_bytes l.out ≡ string_bytes l.initial.out ++ heard_lines (take l.controller l.heard)
