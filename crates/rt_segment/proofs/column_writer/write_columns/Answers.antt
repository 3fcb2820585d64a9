use Rattle.std.proofs.Common.{◌≡◌, Some, length, slice_get, refl}
use Rattle.std.proofs.lemmas.Option.{slice_get_read}
use Rattle.rt_segment.specs.Spelling.{column_bytes}
use Rattle.rt_segment.proofs.Rows.{written_more}
use Rattle.rt_segment.proofs.column_writer.write_columns.Goals as goal

pub loop-column-preserved : goal.loop-column-preserved
loop-column-preserved c =
    let columns = c.args.columns.now in
    let place = c.loop-column.column-index in
    let item = c.column-item.result in
    let at : slice_get columns place ≡ Some item = slice_get_read columns (length columns) place item refl c.loop-column-test.true c.column-item.is in
    written_more (column_bytes c.args.format) c.args.out.now.items c.loop-column.out.items c.write_column.new.out.items columns place item at c.loop-column.invariant (c.in_ok-write_column.ensures {u = tt})
