use Rattle.std.proofs.Common.{arith}
use Rattle.rt_hybrid.proofs.Offline.{side_few}
use Rattle.rt_hybrid.specs.Sides.{is_offline_row, is_realtime_row, offline_side, realtime_side}
use Rattle.rt_hybrid.specs.Table.{offline_rows}
use Rattle.rt_views.specs.Views.{rows_viewed}
use Rattle.rt_views.proofs.Added.{finished}
use Rattle.rt_views.proofs.hybrid_view.hybrid_result.Goals as goal

pub returns : goal.returns
returns c =
    let rows = rows_viewed c.args.schema.now c.args.views.now in
    finished c.args.query.now (offline_side c.args.table.now) (realtime_side c.args.table.now rows) c.in_ok-groups.groups c.add_views.new.groups c.in_ok-rows.rows
    c.in_ok-groups.ensures.groups c.in_ok-add_views.ensures
    (omega (arith, c.in_ok-check_room.ensures c.args.schema.now, c.in_ok-groups.ensures.few, side_few c.args.query.now (is_offline_row c.args.table.now) (offline_rows c.args.table.now), side_few c.args.query.now (is_realtime_row c.args.table.now) rows))
    (c.in_ok-rows.ensures {u = tt})
