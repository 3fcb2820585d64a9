use Rattle.std.proofs.Common.{◌≡◌, drop}
use Rattle.rt_model.specs.Checked.{all_suit}
use Rattle.rt_filter.proofs.checking.all_suit.Given as goal

-- the literals before this place suit
abbrev pub invariant-loop-literal : goal.invariant-loop-literal
invariant-loop-literal l = all_suit l.kind (drop l.literal-index l.literals) ≡ all_suit l.kind l.literals
