use Rattle.std.proofs.Common.{◌≡◌, ◌++◌, option_map, drop}
use Rattle.rt_schema.specs.Flat.{cells_from, data_of}
use Rattle.rt_schema.proofs.flat_reader.row.Given as goal

-- the values so far, and then those of what is left, are all
abbrev pub invariant-loop-i : goal.invariant-loop-i
invariant-loop-i l = cells_from l.columns (data_of l.initial.found) ≡ option_map (λ vs. l.values ++ vs) (cells_from (drop l.i l.columns) (data_of (drop l.i l.found)))
