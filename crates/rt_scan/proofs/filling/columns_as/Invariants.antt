use Rattle.std.proofs.Common.{◌≡◌, map, take}
use Rattle.rt_seek.specs.FileColumn.{file_values}
use Rattle.rt_scan.specs.Filled.{values_as}
use Rattle.rt_scan.proofs.filling.columns_as.Given as goal

abbrev pub invariant-loop-column : goal.invariant-loop-column
invariant-loop-column l = map file_values l.found.items ≡ map (values_as l.stored l.rows) (take l.column-index l.columns)
