use Rattle.std.proofs.Common.{◌≡◌, ℕ, List, sym, ap, subst, ◌∙◌, arith, length, map, All}
use Rattle.std.specs.Prelude.{IfOk}
use Rattle.std.proofs.lemmas.List.Elements.{All-map}
use Rattle.rt_schema.specs.declared.row.Row.{Row}
use Rattle.rt_schema.specs.declared.value.Value.{Value}
use Rattle.rt_schema.specs.Row.{IsRowOf}
use Rattle.rt_model.specs.Aggregate.{taken}
use Rattle.rt_agg.specs.Grouped.{Holds}
use Rattle.rt_agg.proofs.Fitting.{rows_fit}
use Rattle.rt_segment.specs.Column.{SealedColumn}
use Rattle.rt_seek.specs.FileColumn.{file_values}
use Rattle.rt_seek.specs.Table.{row_at, rows_by}
use Rattle.rt_scan.specs.Filled.{values_as}
use Rattle.rt_scan.proofs.FilledRows.{full_columns_as, row_of_schema_as}
use Rattle.rt_scan.proofs.SealedRows.{same_row, same_rows, unmapped}
use Rattle.rt_scan.proofs.filling.scan_as.Goals as goal
use Rattle.rt_scan.proofs.filling.scan_as.Goals.{After-deref}

count : (c : After-deref) → c.rows-rows.result ≡ c.args.sealed.now.rows
count c = c.rows-rows.ensures.rows

-- the columns that were found have the values of the schema's
found : (c : After-deref) → map file_values c.deref.result.now ≡ map (values_as c.args.sealed.now.columns c.args.sealed.now.rows) c.args.schema.now.columns
found c =
    ap (map file_values) c.deref.ensures.value ∙ c.in_ok-columns.ensures {u = tt}
    ∙ ap (λ (s : List SealedColumn). map (values_as s c.rows-rows.result) c.as_slice.result.now) c.columns.ensures
    ∙ ap (λ (n : ℕ). map (values_as c.args.sealed.now.columns n) c.as_slice.result.now) (count c)
    ∙ ap (map (values_as c.args.sealed.now.columns c.args.sealed.now.rows)) c.as_slice.ensures

pub groups_taken-requires-clause-full : goal.groups_taken-requires-clause-full
groups_taken-requires-clause-full c =
    let at = (goal.at.groups_taken-requires-clause-full c).After-deref in
    let sealed = c.args.sealed.now in
    let columns = c.args.schema.now.columns in
    let P = λ (vs : List Value). length vs ≡ c.rows-rows.result in
    unmapped P file_values c.deref.result.now (subst (All P) (sym (found at)) (All-map P (values_as sealed.columns sealed.rows) columns
    (subst (λ (n : ℕ). All (λ column. length (values_as sealed.columns sealed.rows column) ≡ n) columns) (sym (count at))
    (full_columns_as c.args.schema.now sealed c.rows-rows.ensures.right columns))))

pub groups_taken-requires-clause-fits : goal.groups_taken-requires-clause-fits
groups_taken-requires-clause-fits c row h =
    let at = (goal.at.groups_taken-requires-clause-fits c).After-deref in
    let sealed = c.args.sealed.now in
    let schema = c.args.schema.now in
    let this = same_row file_values (values_as sealed.columns sealed.rows) c.deref.result.now schema.columns (found at) row in
    rows_fit schema (row_at file_values c.deref.result.now row)
    (subst (IsRowOf schema) (sym this) (row_of_schema_as schema sealed c.rows-rows.ensures.right row (omega (arith, h, count at))))
    c.args.query.now c.requires

pub returns : goal.returns
returns c =
    let at = (goal.at.returns c).After-deref in
    let sealed = c.args.sealed.now in
    let columns = c.args.schema.now.columns in
    let rows = same_rows file_values (values_as sealed.columns sealed.rows) c.deref.result.now columns (found at) c.rows-rows.result
    ∙ ap (rows_by (values_as sealed.columns sealed.rows) columns) (count at) in
    subst (λ (rs : List Row). IfOk c.groups_taken.result (Holds c.args.query.now (taken c.args.query.now rs))) rows c.groups_taken.ensures
