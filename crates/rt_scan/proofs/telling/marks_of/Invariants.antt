use Rattle.std.proofs.Common.{◌≡◌, map, take}
use Rattle.rt_scan.specs.Summaries.{passes_key}
use Rattle.rt_scan.proofs.telling.marks_of.Given as goal

abbrev pub invariant-loop-key : goal.invariant-loop-key
invariant-loop-key l = l.marks ≡ map (passes_key l.test) (take l.key-index l.keys)
