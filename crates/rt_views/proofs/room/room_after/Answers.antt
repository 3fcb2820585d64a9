use Rattle.std.proofs.Common.{ap, arith, length, take, take_all, length-append}
use Rattle.rt_views.specs.Views.{rows_found, rows_if}
use Rattle.rt_views.proofs.ViewRows.{found_more}
use Rattle.rt_views.proofs.room.room_after.Goals as goal

pub loop-piece-preserved : goal.loop-piece-preserved
loop-piece-preserved c schema =
    let more = ap length (found_more schema c.args.found.now c.loop-piece.piece-index c.piece-item.result (omega arith) c.piece-item.is) in
    omega (arith, more, length-append (rows_found schema (take c.loop-piece.piece-index c.args.found.now)) (rows_if schema c.piece-item.result.rows), c.loop-piece.invariant schema, c.in_ok-left.ensures {u = tt} schema)

pub returns : goal.returns
returns c schema =
    omega (arith, ap (λ fs. length (rows_found schema fs)) (take_all c.loop-piece.piece-index c.args.found.now (omega (arith, c.loop-piece-test.false))), c.loop-piece.invariant schema)
