use Rattle.rt_scan.proofs.Leading.{ids_count, ids_more, least_more}
use Rattle.rt_scan.proofs.grouping.read_ids.Goals as goal

pub loop-column-preserved : goal.loop-column-preserved
loop-column-preserved g c = record {
  key = ids_more g.C.ScanColumn.values g.C.ScanColumn.value_of c.args.columns.now c.args.by.now c.loop-column.column-index c.column-item.result c.args.row c.id_in.result c.loop-column.ids c.push.new.self
      c.loop-column-test.true c.column-item.is c.in_ok-push.ensures.ok c.id_in.ensures.value c.loop-column.invariant.count c.loop-column.invariant.key;
  least = least_more g.C.ScanColumn.values g.C.ScanColumn.value_of c.args.columns.now c.args.by.now c.loop-column.column-index c.column-item.result c.args.row c.id_in.result c.loop-column.ids c.push.new.self
      c.loop-column-test.true c.column-item.is c.in_ok-push.ensures.ok c.id_in.ensures.least c.loop-column.invariant.least;
  count = ids_count g.C.ScanColumn.values g.C.ScanColumn.value_of c.args.columns.now c.args.by.now c.loop-column.column-index c.column-item.result c.args.row c.id_in.result c.loop-column.ids c.push.new.self
      c.loop-column-test.true c.column-item.is c.in_ok-push.ensures.ok c.loop-column.invariant.count;
}
