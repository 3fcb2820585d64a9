use Rattle.std.proofs.Common.{◌≡◌, drop}
use Rattle.rt_segment.specs.Segment.{are_columns}
use Rattle.rt_segment.proofs.table.are_columns.Given as goal

abbrev pub invariant-loop-place : goal.invariant-loop-place
invariant-loop-place l = are_columns (drop l.place l.stored) (drop l.place l.columns) ≡ are_columns l.stored l.columns
