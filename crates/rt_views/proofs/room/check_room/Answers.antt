use Rattle.std.proofs.Common.{List, ap, arith, length, take, take_all, length-append}
use Rattle.rt_views.specs.Views.{rows_found, rows_viewed}
use Rattle.rt_views.specs.declared.found.Found.{Found}
use Rattle.rt_views.proofs.ViewRows.{viewed_more}
use Rattle.rt_views.proofs.room.check_room.Goals as goal

pub loop-view-preserved : goal.loop-view-preserved
loop-view-preserved c schema =
    let more = ap length (viewed_more schema c.args.views.now c.loop-view.view-index c.view-item.result (omega arith) c.view-item.is) in
    omega (arith, more, ap (λ (fs : List Found). length (rows_found schema fs)) c.as_slice.ensures, length-append (rows_viewed schema (take c.loop-view.view-index c.args.views.now)) (rows_found schema c.view-item.result.found), c.loop-view.invariant schema, c.in_ok-room.ensures {u = tt} schema)

pub returns : goal.returns
returns c schema =
    omega (arith, ap (λ vs. length (rows_viewed schema vs)) (take_all c.loop-view.view-index c.args.views.now (omega (arith, c.loop-view-test.false))), c.loop-view.invariant schema)
