use Rattle.std.proofs.Common.{◌≡◌, ◌≤◌, List, ap, subst, ◌∙◌, arith, length, map}
use Rattle.std.specs.Prelude.{IfOk}
use Rattle.std.specs.List.{range_with_len}
use Rattle.std.proofs.lemmas.List.Sums.{count_by-le-length}
use Rattle.rt_schema.specs.declared.row.Row.{Row}
use Rattle.rt_schema.specs.declared.value.Value.{Value}
use Rattle.rt_model.specs.Aggregate.{taken}
use Rattle.rt_mutable.specs.Consuming.{Placed, is_before}
use Rattle.rt_agg.specs.Grouped.{Holds}
use Rattle.rt_agg.proofs.Fitting.{rows_fit}
use Rattle.rt_seek.specs.Table.{row_at}
use Rattle.rt_scan.specs.Scanned.{first_at, consuming_values}
use Rattle.rt_scan.proofs.ConsumingRows.{first_rows_are, first_full, first_kinds}
use Rattle.rt_scan.proofs.SealedRows.{unmapped}
use Rattle.rt_scan.proofs.scanning.scan_below.Goals as goal
use Rattle.rt_scan.proofs.scanning.scan_below.Goals.{After-deref}

within : (c : After-deref) → c.rows_below-count.result ≤ length c.args.rows.now.rows
within c = omega (arith, c.rows_below-count.ensures.count, count_by-le-length (is_before c.args.offset) c.args.rows.now.rows)

columns : (c : After-deref) → map consuming_values c.deref.result.now ≡ map (first_at c.rows_below-count.result c.args.rows.now.rows) (range_with_len 0 (length c.args.rows.now.columns))
columns c =
    ap (map consuming_values) c.deref.ensures.value ∙ c.in_ok-columns.ensures {u = tt}
    ∙ ap (λ w. map (first_at c.rows_below-count.result c.args.rows.now.rows) (range_with_len 0 w)) c.column_count-width.ensures.count

pub groups_taken-requires-clause-full : goal.groups_taken-requires-clause-full
groups_taken-requires-clause-full c =
    let at = (goal.at.groups_taken-requires-clause-full c).After-deref in
    unmapped (λ (vs : List Value). length vs ≡ c.rows_below-count.result) consuming_values c.deref.result.now
    (first_full c.args.rows.now c.column_count-width.ensures.right consuming_values c.deref.result.now c.rows_below-count.result (within at) (columns at))

pub groups_taken-requires-clause-fits : goal.groups_taken-requires-clause-fits
groups_taken-requires-clause-fits c row h =
    let at = (goal.at.groups_taken-requires-clause-fits c).After-deref in
    rows_fit c.requires.schema (row_at consuming_values c.deref.result.now row)
    (first_kinds c.args.rows.now c.column_count-width.ensures.right consuming_values c.deref.result.now c.rows_below-count.result (within at) (columns at) c.requires.schema c.requires.kinds row h)
    c.args.query.now c.requires.parsed

pub returns : goal.returns
returns c =
    let at = (goal.at.returns c).After-deref in
    let rows = first_rows_are c.args.rows.now c.column_count-width.ensures.right consuming_values c.deref.result.now c.rows_below-count.result (within at) (columns at)
    ∙ ap (map (λ (placed : Placed). placed.row)) c.rows_below-count.ensures.first in
    subst (λ (rs : List Row). IfOk c.groups_taken.result (Holds c.args.query.now (taken c.args.query.now rs))) rows c.groups_taken.ensures
