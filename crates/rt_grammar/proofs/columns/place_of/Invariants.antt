use Rattle.std.proofs.Common.{◌≡◌, ◌+◌, drop}
use Rattle.rt_grammar.specs.Columns.{place_of}
use Rattle.rt_grammar.proofs.columns.place_of.Given as goal

-- the name stands at no place before
abbrev pub invariant-loop-place : goal.invariant-loop-place
invariant-loop-place l = place_of l.name l.columns ≡ l.place + place_of l.name (drop l.place l.columns)
