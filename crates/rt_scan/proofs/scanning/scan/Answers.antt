use Rattle.std.proofs.Common.{◌≡◌, ℕ, List, sym, ap, subst, ◌∙◌, arith, length, map, All}
use Rattle.std.specs.Prelude.{IfOk}
use Rattle.std.proofs.lemmas.List.Elements.{All-map}
use Rattle.rt_schema.specs.declared.row.Row.{Row}
use Rattle.rt_schema.specs.declared.value.Value.{Value}
use Rattle.rt_schema.specs.Row.{IsRowOf}
use Rattle.rt_model.specs.Aggregate.{taken}
use Rattle.rt_segment.specs.Column.{values_of}
use Rattle.rt_agg.specs.Grouped.{Holds}
use Rattle.rt_agg.proofs.Fitting.{rows_fit}
use Rattle.rt_seek.specs.FileColumn.{file_values}
use Rattle.rt_seek.specs.Table.{row_at, rows_by}
use Rattle.rt_scan.proofs.SealedRows.{same_row, same_rows, unmapped, row_of_schema, full_columns}
use Rattle.rt_scan.proofs.Skipped.{none_taken}
use Rattle.rt_scan.proofs.scanning.scan.Goals as goal
use Rattle.rt_scan.proofs.scanning.scan.Goals.{After-deref}

-- the columns that are held have the values of the segment's
held : (c : After-deref) → map file_values c.deref.result.now ≡ map values_of c.args.sealed.now.columns
held c = ap (map file_values) c.deref.ensures.value ∙ c.in_ok-columns.ensures {u = tt} ∙ ap (map values_of) c.columns.ensures

count : (c : After-deref) → c.rows-rows.result ≡ c.args.sealed.now.rows
count c = c.rows-rows.ensures.rows

pub groups_taken-requires-clause-full : goal.groups_taken-requires-clause-full
groups_taken-requires-clause-full c =
    let at = (goal.at.groups_taken-requires-clause-full c).After-deref in
    let P = λ (vs : List Value). length vs ≡ c.rows-rows.result in
    unmapped P file_values c.deref.result.now (subst (All P) (sym (held at)) (All-map P values_of c.args.sealed.now.columns
    (subst (λ (n : ℕ). All (λ column. length (values_of column) ≡ n) c.args.sealed.now.columns) (sym (count at)) (full_columns c.args.sealed.now c.rows-rows.ensures.right))))

pub groups_taken-requires-clause-fits : goal.groups_taken-requires-clause-fits
groups_taken-requires-clause-fits c row h =
    let at = (goal.at.groups_taken-requires-clause-fits c).After-deref in
    let this = same_row file_values values_of c.deref.result.now c.args.sealed.now.columns (held at) row in
    rows_fit c.requires.schema (row_at file_values c.deref.result.now row)
    (subst (IsRowOf c.requires.schema) (sym this) (row_of_schema c.requires.schema c.args.sealed.now c.rows-rows.ensures.right c.requires.columns row (omega (arith, h, count at))))
    c.args.query.now c.requires.parsed

pub returns-then-skips : goal.returns-then-skips
returns-then-skips c =
    subst (λ (rs : List Row). IfOk c.make.result (Holds c.args.query.now rs)) (sym (none_taken c.args.query.now c.args.sealed.now c.rows-rows.ensures.right c.requires (sym c.skips.ensures ∙ c.if-skips.true))) c.make.ensures

pub returns : goal.returns
returns c =
    let at = (goal.at.returns c).After-deref in
    let rows = same_rows file_values values_of c.deref.result.now c.args.sealed.now.columns (held at) c.rows-rows.result ∙ ap (rows_by values_of c.args.sealed.now.columns) (count at) in
    subst (λ (rs : List Row). IfOk c.groups_taken.result (Holds c.args.query.now (taken c.args.query.now rs))) rows c.groups_taken.ensures
