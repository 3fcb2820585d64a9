use Rattle.std.proofs.Common.{◌≡◌, take}
use Rattle.rt_model.specs.Aggregate.{key_of}
use Rattle.rt_seek.specs.Table.{row_at}
use Rattle.rt_scan.proofs.grouping.read_values.Given as goal

abbrev pub invariant-loop-column : goal.invariant-loop-column
invariant-loop-column g l = l.values.items ≡ key_of (take l.column-index l.by) (row_at g.C.ScanColumn.values l.columns l.row)
