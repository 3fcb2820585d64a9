use Rattle.std.proofs.Common.{◌≡◌, drop}
use Rattle.rt_scan.specs.Skips.{can_be_one}
use Rattle.rt_scan.proofs.skipping.can_be_one.Given as goal

-- no literal before this place can be equalled
abbrev pub invariant-loop-literal : goal.invariant-loop-literal
invariant-loop-literal l = can_be_one l.columns l.name (drop l.literal-index l.literals) ≡ can_be_one l.columns l.name l.literals
