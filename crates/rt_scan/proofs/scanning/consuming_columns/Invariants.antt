use Rattle.std.proofs.Common.{◌≡◌, map}
use Rattle.std.specs.List.{range_with_len}
use Rattle.rt_scan.specs.Scanned.{first_at, consuming_values}
use Rattle.rt_scan.proofs.scanning.consuming_columns.Given as goal

abbrev pub invariant-loop-place : goal.invariant-loop-place
invariant-loop-place l = map consuming_values l.columns.items ≡ map (first_at l.count l.rows.rows) (range_with_len 0 l.place)
