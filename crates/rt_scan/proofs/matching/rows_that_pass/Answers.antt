use Rattle.std.proofs.Common.{◌≡◌, ◌∙◌, ap, sym, true, replicate, map, refl}
use Rattle.rt_model.specs.Match.{passes}
use Rattle.rt_seek.specs.Table.{rows_by}
use Rattle.rt_seek.proofs.Sets.{ok_then, map_constant}
use Rattle.rt_scan.proofs.Filters.{length_rows}
use Rattle.rt_scan.proofs.matching.rows_that_pass.Goals as goal

pub returns-in-None : goal.returns-in-None
returns-in-None g c =
    let rows = rows_by g.C.ScanColumn.values c.args.columns.now c.args.rows in
    ok_then c.all_rows.result (λ set. set ≡ replicate c.args.rows true) (λ set. set ≡ map (passes c.args.filter.now) rows) c.all_rows.ensures (λ set e.
    e ∙ ap (λ n. replicate n true) (sym (length_rows g.C.ScanColumn.values c.args.columns.now c.args.rows)) ∙ sym (map_constant (λ row. true) true rows (λ row. refl))
    ∙ ap (λ f. map (passes f) rows) (sym c.in-None.is))
