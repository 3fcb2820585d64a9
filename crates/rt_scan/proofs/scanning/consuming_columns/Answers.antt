use Rattle.rt_scan.specs.Scanned.{first_at, consuming_values}
use Rattle.rt_scan.proofs.ConsumingRows.{pushed_more}
use Rattle.rt_scan.proofs.scanning.consuming_columns.Goals as goal

pub loop-place-preserved : goal.loop-place-preserved
loop-place-preserved c =
    pushed_more consuming_values (first_at c.args.count c.args.rows.now.rows) c.loop-place.columns.items c.push.new.self.items c.first_column.result c.loop-place.place c.in_ok-push.ensures.items c.loop-place.invariant c.first_column.ensures
