use Rattle.std.proofs.Common.{◌≡◌, ℕ, List, sym, ap, subst, ◌∙◌, arith, length, All}
use Rattle.std.specs.List.{AllByRecursion}
use Rattle.std.proofs.lemmas.List.Elements.{All-map}
use Rattle.rt_schema.specs.declared.row.Row.{Row}
use Rattle.rt_schema.specs.declared.value.Value.{Value}
use Rattle.rt_model.specs.declared.query_parts.Item.{Item}
use Rattle.rt_segment.specs.Column.{values_of}
use Rattle.rt_agg.specs.Grouped.{Fits, Holds}
use Rattle.rt_seek.specs.FileColumn.{file_values}
use Rattle.rt_seek.specs.Table.{rows_by}
use Rattle.rt_scan.specs.Summaries.{IsFitting}
use Rattle.rt_scan.proofs.SealedRows.{same_row, same_rows, unmapped, full_columns}
use Rattle.rt_scan.proofs.Summing.{all_taken, query_fits}
use Rattle.rt_scan.proofs.summaries.summary_by.Goals as goal

pub groups_taken-requires-clause-full : goal.groups_taken-requires-clause-full
groups_taken-requires-clause-full c =
    let P = λ (vs : List Value). length vs ≡ c.rows-rows.result in
    unmapped P file_values c.args.columns.now (subst (All P) (sym c.requires.columns) (All-map P values_of c.args.file.now.columns
    (subst (λ (n : ℕ). All (λ column. length (values_of column) ≡ n) c.args.file.now.columns) (sym c.rows-rows.ensures.rows) (full_columns c.args.file.now c.rows-rows.ensures.right))))

pub groups_taken-requires-clause-fits : goal.groups_taken-requires-clause-fits
groups_taken-requires-clause-fits c row h =
    let file = c.args.file.now in
    let query = c.in_ok-query.query in
    subst (Fits query) (sym (same_row file_values values_of c.args.columns.now file.columns c.requires.columns row))
    (query_fits file c.rows-rows.ensures.right row (omega (arith, h, c.rows-rows.ensures.rows)) query
    (subst (λ (is : List Item). AllByRecursion (IsFitting file.columns) is) (sym c.in_ok-query.ensures.items) c.requires.items) c.in_ok-query.ensures.order)

pub returns-clause-summary : goal.returns-clause-summary
returns-clause-summary c =
    let file = c.args.file.now in
    let query = c.in_ok-query.query in
    let rows = same_rows file_values values_of c.args.columns.now file.columns c.requires.columns c.rows-rows.result ∙ ap (rows_by values_of file.columns) c.rows-rows.ensures.rows in
    (query, subst (λ (rs : List Row). Holds query rs c.in_ok-groups.groups) (all_taken query (rows_by file_values c.args.columns.now c.rows-rows.result) c.in_ok-query.ensures.filter ∙ rows) c.in_ok-groups.ensures)

pub returns-clause-items : goal.returns-clause-items
returns-clause-items c = c.in_ok-groups.ensures.items ∙ c.in_ok-query.ensures.items
