use Rattle.std.proofs.Common.{◌≡◌, ◌++◌, take, string_bytes}
use Rattle.rt_live_output.specs.Texts.{heard_line, texts}
use Rattle.rt_live_output.proofs.lines.write_heard_of.Given as goal

abbrev pub invariant-loop-place : goal.invariant-loop-place
invariant-loop-place l = string_bytes l.out ≡ string_bytes l.initial.out ++ texts (heard_line l.controller) (take l.place l.heard)
