use Rattle.std.proofs.Common.{List, subst, take, take_all, arith}
use Rattle.rt_model.specs.Aggregate.{taken}
use Rattle.rt_hybrid.proofs.Gaining.{adds_none, adds_same, adds_then}
use Rattle.rt_hybrid.specs.Adding.{AddsRows}
use Rattle.rt_hybrid.specs.Sides.{realtime_side}
use Rattle.rt_views.specs.Views.{rows_found, rows_viewed}
use Rattle.rt_views.specs.declared.found.Found.{Found}
use Rattle.rt_views.specs.declared.view.View.{View}
use Rattle.rt_views.proofs.Added.{viewed_taken}
use Rattle.rt_views.proofs.hybrid_view.add_views.Goals as goal

pub loop-view-init : goal.loop-view-init
loop-view-init c = adds_none c.args.query.now c.args.groups.now

pub loop-view-preserved : goal.loop-view-preserved
loop-view-preserved c =
    let before = taken c.args.query.now (realtime_side c.args.table.now (rows_viewed c.args.schema.now (take c.loop-view.view-index c.args.views.now))) in
    let more = taken c.args.query.now (realtime_side c.args.table.now (rows_found c.args.schema.now c.view-item.result.found)) in
    adds_same c.args.query.now _ _ c.args.groups.now c.add_found.new.groups
    (viewed_taken c.args.query.now c.args.table.now c.args.schema.now c.args.views.now c.loop-view.view-index c.view-item.result (omega arith) c.view-item.is)
    (adds_then c.args.query.now before more c.args.groups.now c.loop-view.groups c.add_found.new.groups c.loop-view.invariant
    (subst (λ (fs : List Found). AddsRows c.args.query.now (taken c.args.query.now (realtime_side c.args.table.now (rows_found c.args.schema.now fs))) c.loop-view.groups c.add_found.new.groups) c.as_slice.ensures c.in_ok-add_found.ensures))

pub returns : goal.returns
returns c =
    subst (λ (vs : List View). AddsRows c.args.query.now (taken c.args.query.now (realtime_side c.args.table.now (rows_viewed c.args.schema.now vs))) c.args.groups.now c.loop-view.groups)
    (take_all c.loop-view.view-index c.args.views.now (omega (arith, c.loop-view-test.false))) c.loop-view.invariant
