use Rattle.std.proofs.Common.{◌≡◌, drop}
use Rattle.rt_segment.specs.Reading.{first_past}
use Rattle.rt_segment.proofs.ids_reader.past.Given as goal

abbrev pub invariant-loop-row : goal.invariant-loop-row
invariant-loop-row l = first_past l.cardinality l.row (drop l.row l.ids) ≡ first_past l.cardinality 0 l.ids
