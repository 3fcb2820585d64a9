use Rattle.std.proofs.Common.{take}
use Rattle.rt_hybrid.specs.Adding.{AddsRows}
use Rattle.rt_model.specs.Aggregate.{taken}
use Rattle.rt_views.specs.Placing.{latest_viewed}
use Rattle.rt_views.proofs.latest_view.add_views.Given as goal

abbrev pub invariant-loop-view : goal.invariant-loop-view
invariant-loop-view l = AddsRows l.query (taken l.query (latest_viewed l.schema l.config (take l.view-index l.views))) l.fn.groups l.groups
