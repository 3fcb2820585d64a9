-- Groups that take the rows of one view or piece more.
use Rattle.std.proofs.Common.{◌≡◌, ℕ, ◌+◌, ◌<◌, List, ◌++◌, length, take, get_or, sym, ap, ◌∙◌}
use Rattle.std.proofs.lemmas.List.Elements.{filter-append}
use Rattle.rt_schema.specs.declared.row.Row.{Row}
use Rattle.rt_schema.specs.declared.schema.Schema.{Schema}
use Rattle.rt_agg.specs.Grouped.{Finishes, Grouped, Holds}
use Rattle.rt_model.specs.declared.answer.ResultRow.{ResultRow}
use Rattle.rt_model.specs.declared.query.Query.{Query}
use Rattle.rt_model.specs.Aggregate.{aggregate, result_rows, taken}
use Rattle.rt_model.specs.Match.{passes}
use Rattle.rt_hybrid.specs.Adding.{AddsRows}
use Rattle.rt_hybrid.specs.Sides.{is_realtime_row, realtime_side}
use Rattle.rt_hybrid.specs.Table.{OfflineTable}
use Rattle.rt_upconf.specs.declared.upsert_config.UpsertConfig.{UpsertConfig}
use Rattle.rt_views.specs.Placing.{latest_found, latest_viewed}
use Rattle.rt_views.specs.Views.{rows_found, rows_if, rows_viewed}
use Rattle.rt_views.specs.declared.found.Found.{Found}
use Rattle.rt_views.specs.declared.view.View.{View}
use Rattle.rt_views.proofs.PutRows.{latest_more}
use Rattle.rt_views.proofs.ViewRows.{found_more, viewed_more}

pub latest_taken : (query : Query) (schema : Schema) (config : UpsertConfig) (vs : List View) (i : ℕ) (v : View) → i < length vs → v ≡ get_or vs i v
    → taken query (latest_viewed schema config (take i vs)) ++ taken query (latest_found schema config v.found) ≡ taken query (latest_viewed schema config (take (i + 1) vs))
latest_taken query schema config vs i v within is =
    sym (filter-append (passes query.filter) (latest_viewed schema config (take i vs)) (latest_found schema config v.found))
    ∙ ap (taken query) (sym (latest_more schema config vs i v within is))

both : (query : Query) (table : OfflineTable) (xs ys : List Row) → taken query (realtime_side table xs) ++ taken query (realtime_side table ys) ≡ taken query (realtime_side table (xs ++ ys))
both query table xs ys =
    sym (filter-append (passes query.filter) (realtime_side table xs) (realtime_side table ys)) ∙ ap (taken query) (sym (filter-append (is_realtime_row table) xs ys))

pub viewed_taken : (query : Query) (table : OfflineTable) (schema : Schema) (vs : List View) (i : ℕ) (v : View) → i < length vs → v ≡ get_or vs i v
    → taken query (realtime_side table (rows_viewed schema (take i vs))) ++ taken query (realtime_side table (rows_found schema v.found)) ≡ taken query (realtime_side table (rows_viewed schema (take (i + 1) vs)))
viewed_taken query table schema vs i v within is =
    both query table (rows_viewed schema (take i vs)) (rows_found schema v.found) ∙ ap (λ (rs : List Row). taken query (realtime_side table rs)) (sym (viewed_more schema vs i v within is))

pub found_taken : (query : Query) (table : OfflineTable) (schema : Schema) (fs : List Found) (i : ℕ) (f : Found) → i < length fs → f ≡ get_or fs i f
    → taken query (realtime_side table (rows_found schema (take i fs))) ++ taken query (realtime_side table (rows_if schema f.rows)) ≡ taken query (realtime_side table (rows_found schema (take (i + 1) fs)))
found_taken query table schema fs i f within is =
    both query table (rows_found schema (take i fs)) (rows_if schema f.rows) ∙ ap (λ (rs : List Row). taken query (realtime_side table rs)) (sym (found_more schema fs i f within is))

-- ---- the result rows

pub finished : (query : Query) (xs ys : List Row) (a b : Grouped) (result : List ResultRow)
    → Holds query (taken query xs) a → AddsRows query (taken query ys) a b → length (taken query xs) + length (taken query ys) < 9223372036854775808
    → Finishes b result → result ≡ aggregate query (xs ++ ys)
finished query xs ys a b result holds adds few finishes =
    finishes query (taken query xs ++ taken query ys) (adds (taken query xs) holds few) ∙ ap (result_rows query) (sym (filter-append (passes query.filter) xs ys))
