use Rattle.std.proofs.Common.{◌≡◌, ◌+◌, drop}
use Rattle.rt_lines.specs.Words.{place_in}
use Rattle.rt_lines.proofs.parts.place_in.Given as goal

abbrev pub invariant-loop-place : goal.invariant-loop-place
invariant-loop-place l = place_in l.byte l.text ≡ place_in l.byte (drop l.place l.text) + l.place
