use Rattle.std.proofs.Common.{◌∙◌, ap, subst}
use Rattle.std.specs.Prelude.{IfOk}
use Rattle.rt_model.specs.Aggregate.{taken}
use Rattle.rt_agg.specs.Grouped.{Holds}
use Rattle.rt_upsert.specs.Latest.{latest_of, rows_in, start_of}
use Rattle.rt_upsert.specs.Placed.{PlacedRows}
use Rattle.rt_views.specs.Placing.{put_all}
use Rattle.rt_views.proofs.PutRows.{all_kinds}
use Rattle.rt_views.proofs.latest_view.latest_groups.Goals as goal

pub answer-requires : goal.answer-requires
answer-requires c =
    let is = c.in_ok-put_all.ensures ∙ ap (λ (h : PlacedRows). put_all c.args.schema.now h c.args.found.now) (c.in_ok-upsert.ensures {u = tt}) in
    (c.args.schema.now, ap (λ (h : PlacedRows). h.kinds) is ∙ all_kinds c.args.schema.now (start_of c.args.schema.now c.args.config.now) c.args.found.now, c.requires.query)

pub returns : goal.returns
returns c =
    let is = c.in_ok-put_all.ensures ∙ ap (λ (h : PlacedRows). put_all c.args.schema.now h c.args.found.now) (c.in_ok-upsert.ensures {u = tt}) in
    subst (λ (h : PlacedRows). IfOk c.answer.result (Holds c.args.query.now (taken c.args.query.now (rows_in (latest_of h))))) is c.answer.ensures
