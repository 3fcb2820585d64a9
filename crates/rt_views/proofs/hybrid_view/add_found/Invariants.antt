use Rattle.std.proofs.Common.{take}
use Rattle.rt_hybrid.specs.Adding.{AddsRows}
use Rattle.rt_hybrid.specs.Sides.{realtime_side}
use Rattle.rt_model.specs.Aggregate.{taken}
use Rattle.rt_views.specs.Views.{rows_found}
use Rattle.rt_views.proofs.hybrid_view.add_found.Given as goal

abbrev pub invariant-loop-piece : goal.invariant-loop-piece
invariant-loop-piece l = AddsRows l.query (taken l.query (realtime_side l.table (rows_found l.schema (take l.piece-index l.found)))) l.fn.groups l.groups
