use Rattle.std.proofs.Common.{◌≡◌, take, length}
use Rattle.rt_model.specs.Aggregate.{key_of}
use Rattle.rt_seek.specs.Table.{row_at}
use Rattle.rt_scan.specs.Grouping.{AreLeast, key_by}
use Rattle.rt_scan.proofs.grouping.read_ids.Given as goal

abbrev pub invariant-loop-column : goal.invariant-loop-column
invariant-loop-column g l = record {
  key : key_by g.C.ScanColumn.value_of l.columns (take l.column-index l.by) l.ids ≡ key_of (take l.column-index l.by) (row_at g.C.ScanColumn.values l.columns l.row);
  least : AreLeast g.C.ScanColumn.value_of l.columns (take l.column-index l.by) l.ids;
  count : length l.ids ≡ l.column-index;
}
