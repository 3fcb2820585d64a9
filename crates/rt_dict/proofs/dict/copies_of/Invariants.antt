use Rattle.std.proofs.Common.{◌≡◌, take}
use Rattle.rt_dict.proofs.dict.copies_of.Given as goal

abbrev pub invariant-loop-key : goal.invariant-loop-key
invariant-loop-key g l = l.copies.items ≡ take l.key-index l.keys
