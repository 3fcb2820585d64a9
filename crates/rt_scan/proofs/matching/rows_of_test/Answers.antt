use Rattle.std.proofs.Common.{◌≡◌, length, sym, subst, replicate, false, map, refl, ◌∙◌}
use Rattle.std.proofs.lemmas.Option.{slice_get_read, slice_get_past}
use Rattle.rt_model.specs.Match.{meets, value_at}
use Rattle.rt_seek.specs.ColumnTest.{passes_test}
use Rattle.rt_seek.specs.Table.{rows_by}
use Rattle.rt_seek.proofs.Sets.{ok_then}
use Rattle.rt_scan.proofs.Filters.{test_rows, no_rows}
use Rattle.rt_scan.proofs.matching.rows_of_test.Goals as goal

pub returns-then-place-columns : goal.returns-then-place-columns
returns-then-place-columns g c =
    let columns = c.args.columns.now in
    let place = c.args.column.now.place in
    let found = c.index-columns-place.result in
    ok_then c.rows_that_pass.result (λ set. set ≡ map (passes_test c.args.test.now) (g.C.ScanColumn.values found)) (λ set. set ≡ map (λ row. meets (passes_test c.args.test.now) (value_at row c.args.column.now)) (rows_by g.C.ScanColumn.values columns c.args.rows)) c.rows_that_pass.ensures (λ set e.
    e ∙ test_rows g.C.ScanColumn.values columns c.args.rows (passes_test c.args.test.now) c.args.column.now found
    (slice_get_read columns _ place found refl c.if-place-columns.true c.index-columns-place.is)
    (subst (λ column. length (g.C.ScanColumn.values column) ≡ c.args.rows) (sym c.index-columns-place.is) (c.requires place found c.if-place-columns.true)))

pub returns-else-place-columns : goal.returns-else-place-columns
returns-else-place-columns g c =
    ok_then c.empty.result (λ set. set ≡ replicate c.args.rows false) (λ set. set ≡ map (λ row. meets (passes_test c.args.test.now) (value_at row c.args.column.now)) (rows_by g.C.ScanColumn.values c.args.columns.now c.args.rows)) c.empty.ensures (λ set e.
    e ∙ no_rows g.C.ScanColumn.values c.args.columns.now c.args.rows (passes_test c.args.test.now) c.args.column.now (slice_get_past c.args.columns.now c.args.column.now.place c.if-place-columns.false))
