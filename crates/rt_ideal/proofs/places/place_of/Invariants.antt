use Rattle.std.proofs.Common.{◌≡◌, ◌++◌, take, drop}
use Rattle.rt_model.specs.Ideal.{with_entry}
use Rattle.rt_ideal.proofs.places.place_of.Given as goal

-- the entry goes behind those so far
abbrev pub invariant-loop-place : goal.invariant-loop-place
invariant-loop-place l =
    with_entry l.entry l.entries ≡ take l.place l.entries ++ with_entry l.entry (drop l.place l.entries)
