use Rattle.std.proofs.Common.{◌≡◌, drop}
use Rattle.rt_model.specs.Match.{is_one_of}
use Rattle.rt_filter.proofs.comparing.is_one_of.Given as goal

-- the value equals none of the literals before this place
abbrev pub invariant-loop-literal : goal.invariant-loop-literal
invariant-loop-literal l = is_one_of l.value (drop l.literal-index l.literals) ≡ is_one_of l.value l.literals
