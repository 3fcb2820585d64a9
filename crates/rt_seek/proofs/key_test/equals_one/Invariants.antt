use Rattle.std.proofs.Common.{◌≡◌, drop}
use Rattle.rt_seek.specs.Keys.{equals_one}
use Rattle.rt_seek.proofs.key_test.equals_one.Given as goal

-- the key equals none of the literals before this place
abbrev pub invariant-loop-literal : goal.invariant-loop-literal
invariant-loop-literal g l = equals_one g.K.Comparable.against l.key (drop l.literal-index l.literals) ≡ equals_one g.K.Comparable.against l.key l.literals
