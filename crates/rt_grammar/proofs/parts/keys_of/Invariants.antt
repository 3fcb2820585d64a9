use Rattle.std.proofs.Common.{◌≡◌, map}
use Rattle.rt_grammar.proofs.parts.keys_of.Given as goal

-- each key so far is there
abbrev pub invariant-loop-found : goal.invariant-loop-found
invariant-loop-found l = l.keys ≡ map (λ k. k.key) l.yielded
