use Rattle.std.proofs.Common.{◌≡◌, map}
use Rattle.rt_grammar.proofs.parts.items_of.Given as goal

-- each item so far is there
abbrev pub invariant-loop-found : goal.invariant-loop-found
invariant-loop-found l = l.items ≡ map (λ i. i.item) l.yielded
