-- The groups of both sides, merged.
use Rattle.std.proofs.Common.{◌≡◌, ◌+◌, ◌<◌, List, ◌++◌, length, sym, ap, ◌∙◌}
use Rattle.std.proofs.lemmas.List.Elements.{filter-append}
use Rattle.rt_schema.specs.declared.row.Row.{Row}
use Rattle.rt_model.specs.declared.answer.ResultRow.{ResultRow}
use Rattle.rt_model.specs.declared.query.Query.{Query}
use Rattle.rt_model.specs.Aggregate.{aggregate, taken, result_rows}
use Rattle.rt_model.specs.Match.{passes}
use Rattle.rt_agg.specs.Grouped.{Finishes, Grouped, Holds, Merges}
use Rattle.rt_hybrid.specs.Sides.{hybrid_rows, offline_side, realtime_side}
use Rattle.rt_hybrid.specs.Table.{OfflineTable}

pub merged_finish : (table : OfflineTable) (query : Query) (rows : List Row) (offline realtime merged : Grouped) (result : List ResultRow)
    → Holds query (taken query (offline_side table)) offline → Holds query (taken query (realtime_side table rows)) realtime
    → Merges offline realtime merged → length (taken query (offline_side table)) + length (taken query (realtime_side table rows)) < 9223372036854775808
    → Finishes merged result → result ≡ aggregate query (hybrid_rows table rows)
merged_finish table query rows offline realtime merged result a b m few f =
    f query (taken query (offline_side table) ++ taken query (realtime_side table rows)) (m query (taken query (offline_side table)) (taken query (realtime_side table rows)) a b few)
    ∙ ap (result_rows query) (sym (filter-append (passes query.filter) (offline_side table) (realtime_side table rows)))
