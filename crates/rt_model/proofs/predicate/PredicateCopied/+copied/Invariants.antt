use Rattle.std.proofs.Common.{◌≡◌, take}
use Rattle.rt_model.proofs.predicate.PredicateCopied.+copied.Given as goal

-- each part before this place has its copy
abbrev pub invariant-loop-part : goal.invariant-loop-part
invariant-loop-part l = l.copies.items ≡ take l.part-index l.part-items

abbrev pub invariant-loop-part-2 : goal.invariant-loop-part-2
invariant-loop-part-2 l = l.copies.items ≡ take l.part-index l.part-items
