use Rattle.std.proofs.Common.{◌≡◌, map, take}
use Rattle.rt_model.specs.Match.{value_in}
use Rattle.rt_agg.proofs.keys.values_of_row.Given as goal

abbrev pub invariant-loop-column : goal.invariant-loop-column
invariant-loop-column l = l.values ≡ map (value_in l.row) (take l.column-index l.columns)
