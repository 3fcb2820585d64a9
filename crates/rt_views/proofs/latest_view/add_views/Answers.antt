use Rattle.std.proofs.Common.{List, ap, length, subst, take, take_all, arith}
use Rattle.rt_model.specs.Aggregate.{taken}
use Rattle.rt_agg.specs.Grouped.{Holds}
use Rattle.rt_hybrid.proofs.Gaining.{adds_none, adds_same, adds_then, merged_adds}
use Rattle.rt_hybrid.specs.Adding.{AddsRows}
use Rattle.rt_views.specs.Placing.{latest_found, latest_viewed}
use Rattle.rt_views.specs.Views.{rows_found}
use Rattle.rt_views.specs.declared.found.Found.{Found}
use Rattle.rt_views.specs.declared.view.View.{View}
use Rattle.rt_views.proofs.Added.{latest_taken}
use Rattle.rt_views.proofs.ViewRows.{one_viewed}
use Rattle.rt_views.proofs.latest_view.add_views.Goals as goal

pub loop-view-init : goal.loop-view-init
loop-view-init c = adds_none c.args.query.now c.args.groups.now

pub latest_groups-requires-clause-few : goal.latest_groups-requires-clause-few
latest_groups-requires-clause-few c = omega (arith, c.requires.few, ap (λ (fs : List Found). length (rows_found c.args.schema.now fs)) c.as_slice.ensures, one_viewed c.args.schema.now c.args.views.now c.loop-view.view-index c.view-item.result (omega arith) c.view-item.is)

pub loop-view-preserved : goal.loop-view-preserved
loop-view-preserved c =
    let before = taken c.args.query.now (latest_viewed c.args.schema.now c.args.config.now (take c.loop-view.view-index c.args.views.now)) in
    let more = taken c.args.query.now (latest_found c.args.schema.now c.args.config.now c.view-item.result.found) in
    adds_same c.args.query.now _ _ c.args.groups.now c.merge.new.self
    (latest_taken c.args.query.now c.args.schema.now c.args.config.now c.args.views.now c.loop-view.view-index c.view-item.result (omega arith) c.view-item.is)
    (adds_then c.args.query.now before more c.args.groups.now c.loop-view.groups c.merge.new.self c.loop-view.invariant
    (merged_adds c.args.query.now more c.loop-view.groups c.in_ok-more.more c.merge.new.self c.in_ok-merge.ensures.merges
    (subst (λ (fs : List Found). Holds c.args.query.now (taken c.args.query.now (latest_found c.args.schema.now c.args.config.now fs)) c.in_ok-more.more) c.as_slice.ensures (c.in_ok-more.ensures {u = tt}))))

pub returns : goal.returns
returns c =
    subst (λ (vs : List View). AddsRows c.args.query.now (taken c.args.query.now (latest_viewed c.args.schema.now c.args.config.now vs)) c.args.groups.now c.loop-view.groups)
    (take_all c.loop-view.view-index c.args.views.now (omega (arith, c.loop-view-test.false))) c.loop-view.invariant
