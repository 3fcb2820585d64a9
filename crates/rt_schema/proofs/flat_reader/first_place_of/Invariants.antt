use Rattle.std.proofs.Common.{◌≡◌, drop}
use Rattle.rt_schema.specs.Schema.{is_among, names_of}
use Rattle.rt_schema.proofs.flat_reader.first_place_of.Given as goal

-- no column before this one has the name
abbrev pub invariant-loop-i : goal.invariant-loop-i
invariant-loop-i l = is_among l.name (names_of (drop l.i l.columns)) ≡ is_among l.name (names_of l.columns)
