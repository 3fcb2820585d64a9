use Rattle.std.proofs.Common.{◌≡◌, map, take}
use Rattle.rt_segment.specs.Column.{values_of}
use Rattle.rt_seek.specs.FileColumn.{file_values}
use Rattle.rt_scan.proofs.scanning.held_columns.Given as goal

abbrev pub invariant-loop-column : goal.invariant-loop-column
invariant-loop-column l = map file_values l.held.items ≡ map values_of (take l.column-index l.columns)
