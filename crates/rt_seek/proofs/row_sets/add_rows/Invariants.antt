use Rattle.std.proofs.Common.{◌≡◌, drop, length}
use Rattle.rt_seek.specs.RowSets.{with_rows}
use Rattle.rt_seek.proofs.row_sets.add_rows.Given as goal

abbrev pub invariant-loop-row : goal.invariant-loop-row
invariant-loop-row l = record {
  added : with_rows l.set (drop l.row-index l.rows) ≡ with_rows l.initial.set l.rows;
  count : length l.set ≡ length l.initial.set;
}
