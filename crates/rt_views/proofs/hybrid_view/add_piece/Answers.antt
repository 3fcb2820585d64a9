use Rattle.std.proofs.Common.{All, List, subst, sym}
use Rattle.rt_schema.specs.Row.{IsRowOf}
use Rattle.rt_schema.specs.declared.row.Row.{Row}
use Rattle.rt_schema.specs.declared.schema.Schema.{Schema}
use Rattle.rt_model.specs.Aggregate.{taken}
use Rattle.rt_hybrid.proofs.Gaining.{merged_adds}
use Rattle.rt_hybrid.specs.Adding.{AddsRows}
use Rattle.rt_hybrid.specs.Sides.{realtime_side}
use Rattle.rt_views.proofs.hybrid_view.add_piece.Goals as goal

pub realtime-requires-clause-rows : goal.realtime-requires-clause-rows
realtime-requires-clause-rows c = subst (λ (s : Schema). All (IsRowOf s) c.rows_if.result.now) (sym c.requires.schema) c.rows_if.ensures.right

pub returns : goal.returns
returns c =
    subst (λ (rows : List Row). AddsRows c.args.query.now (taken c.args.query.now (realtime_side c.args.table.now rows)) c.args.groups.now c.merge.new.self) c.rows_if.ensures.rows
    (merged_adds c.args.query.now (taken c.args.query.now (realtime_side c.args.table.now c.rows_if.result.now)) c.args.groups.now c.in_ok-more.more c.merge.new.self c.in_ok-merge.ensures.merges (c.in_ok-more.ensures {u = tt}))
