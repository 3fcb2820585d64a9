use Rattle.std.proofs.Common.{◌∙◌, ap, get_or}
use Rattle.std.proofs.lemmas.List.{get_or_default}
use Rattle.rt_seek.specs.RowSets.{truth_at}
use Rattle.rt_seek.proofs.Rows.{noted_more}
use Rattle.rt_seek.proofs.row_sets.rows_with.Goals as goal

pub loop-row-preserved : goal.loop-row-preserved
loop-row-preserved c =
    let f = truth_at c.args.truths.now in
    let ids = c.args.ids.now in
    let row = c.loop-row.row in
    let id = get_or ids row 0 in
    c.note_row.ensures
    ∙ noted_more f ids row id c.loop-row.set c.loop-row-test.true (ap f (get_or_default ids row id 0 c.loop-row-test.true)) c.loop-row.invariant
