use Rattle.std.proofs.Common.{[], arith}
use Rattle.rt_hybrid.proofs.Offline.{taken_few}
use Rattle.rt_views.specs.Placing.{latest_viewed}
use Rattle.rt_views.proofs.Added.{finished}
use Rattle.rt_views.proofs.PutRows.{viewed_few}
use Rattle.rt_views.proofs.latest_view.latest_rows.Goals as goal

pub add_views-requires-clause-few : goal.add_views-requires-clause-few
add_views-requires-clause-few c = c.in_ok-check_room.ensures c.args.schema.now

pub returns : goal.returns
returns c =
    let rows = latest_viewed c.args.schema.now c.args.config.now c.args.views.now in
    finished c.args.query.now [] rows c.in_ok-groups.groups c.add_views.new.groups c.in_ok-rows.rows (c.in_ok-groups.ensures {u = tt}) c.in_ok-add_views.ensures
    (omega (arith, c.in_ok-check_room.ensures c.args.schema.now, viewed_few c.args.schema.now c.args.config.now c.args.views.now, taken_few c.args.query.now rows))
    (c.in_ok-rows.ensures {u = tt})
