use Rattle.std.proofs.Common.{◌≡◌, ◌-◌}
use Rattle.rt_grammar.specs.Nested.{under}
use Rattle.rt_grammar.proofs.nested.under.Given as goal

-- what has been read, behind the NOTs that are left
abbrev pub invariant-loop-not : goal.invariant-loop-not
invariant-loop-not l = under (l.nots - l._not) l.predicate ≡ under l.nots l.fn.term
