use Rattle.std.proofs.Common.{◌≡◌, ◌-◌, ◌++◌, false, length, map, replicate, take}
use Rattle.rt_seek.specs.RowSets.{truth_at}
use Rattle.rt_seek.proofs.row_sets.rows_with.Given as goal

-- the rows before this one are told, and the others are not in the set yet
abbrev pub invariant-loop-row : goal.invariant-loop-row
invariant-loop-row l = l.set ≡ map (truth_at l.truths) (take l.row l.ids) ++ replicate (length l.ids - l.row) false
