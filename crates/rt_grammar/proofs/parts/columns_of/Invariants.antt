use Rattle.std.proofs.Common.{◌≡◌, map}
use Rattle.rt_grammar.proofs.parts.columns_of.Given as goal

-- each column so far is there
abbrev pub invariant-loop-found : goal.invariant-loop-found
invariant-loop-found l = l.columns ≡ map (λ g. g.column) l.yielded
