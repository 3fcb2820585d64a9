use Rattle.std.proofs.Common.{take}
use Rattle.rt_hybrid.specs.Adding.{AddsRows}
use Rattle.rt_hybrid.specs.Sides.{realtime_side}
use Rattle.rt_model.specs.Aggregate.{taken}
use Rattle.rt_views.specs.Views.{rows_viewed}
use Rattle.rt_views.proofs.hybrid_view.add_views.Given as goal

abbrev pub invariant-loop-view : goal.invariant-loop-view
invariant-loop-view l = AddsRows l.query (taken l.query (realtime_side l.table (rows_viewed l.schema (take l.view-index l.views)))) l.fn.groups l.groups
