use Rattle.std.proofs.Common.{◌≡◌, Some, length, slice_get, refl, arith}
use Rattle.std.proofs.lemmas.Option.{slice_get_read}
use Rattle.rt_segment.specs.Column.{IsColumn}
use Rattle.rt_segment.proofs.Rows.{fits_more, fits_all}
use Rattle.rt_segment.proofs.table.are_whole.Goals as goal

pub loop-column-preserved : goal.loop-column-preserved
loop-column-preserved c =
    let columns = c.args.columns.now in
    let place = c.loop-column.column-index in
    let item = c.column-item.result in
    let at : slice_get columns place ≡ Some item = slice_get_read columns (length columns) place item refl c.loop-column-test.true c.column-item.is in
    fits_more IsColumn columns place item at c.loop-column.invariant c.size-size.ensures.column

pub returns : goal.returns
returns c = fits_all IsColumn c.args.columns.now c.loop-column.column-index (omega arith) c.loop-column.invariant
