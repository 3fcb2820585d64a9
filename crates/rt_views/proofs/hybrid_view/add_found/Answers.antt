use Rattle.std.proofs.Common.{List, subst, take, take_all, arith}
use Rattle.rt_model.specs.Aggregate.{taken}
use Rattle.rt_hybrid.proofs.Gaining.{adds_none, adds_same, adds_then}
use Rattle.rt_hybrid.specs.Adding.{AddsRows}
use Rattle.rt_hybrid.specs.Sides.{realtime_side}
use Rattle.rt_views.specs.Views.{rows_found, rows_if}
use Rattle.rt_views.specs.declared.found.Found.{Found}
use Rattle.rt_views.proofs.Added.{found_taken}
use Rattle.rt_views.proofs.hybrid_view.add_found.Goals as goal

pub loop-piece-init : goal.loop-piece-init
loop-piece-init c = adds_none c.args.query.now c.args.groups.now

pub loop-piece-preserved : goal.loop-piece-preserved
loop-piece-preserved c =
    let before = taken c.args.query.now (realtime_side c.args.table.now (rows_found c.args.schema.now (take c.loop-piece.piece-index c.args.found.now))) in
    let more = taken c.args.query.now (realtime_side c.args.table.now (rows_if c.args.schema.now c.piece-item.result.rows)) in
    adds_same c.args.query.now _ _ c.args.groups.now c.add_piece.new.groups
    (found_taken c.args.query.now c.args.table.now c.args.schema.now c.args.found.now c.loop-piece.piece-index c.piece-item.result (omega arith) c.piece-item.is)
    (adds_then c.args.query.now before more c.args.groups.now c.loop-piece.groups c.add_piece.new.groups c.loop-piece.invariant c.in_ok-add_piece.ensures)

pub returns : goal.returns
returns c =
    subst (λ (fs : List Found). AddsRows c.args.query.now (taken c.args.query.now (realtime_side c.args.table.now (rows_found c.args.schema.now fs))) c.args.groups.now c.loop-piece.groups)
    (take_all c.loop-piece.piece-index c.args.found.now (omega (arith, c.loop-piece-test.false))) c.loop-piece.invariant
