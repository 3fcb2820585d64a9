use Rattle.std.proofs.Common.{◌≡◌, ◌+◌, ◌-◌, [], Ok, sym, subst}
use Rattle.std.proofs.lemmas.Result.{err_from_is_err_and}
use Rattle.rt_segment.specs.Cursor.{Refuses}
use Rattle.rt_segment.specs.Reading.{column_at, columns_at}
use Rattle.rt_segment.proofs.Loops.{with_front}
use Rattle.rt_segment.proofs.ColumnLoop.{names, column_taken, column_refused, columns_done}
use Rattle.rt_segment.proofs.column_reader.read_columns.Goals as goal

pub returns-in_err-column : goal.returns-in_err-column
returns-in_err-column c =
    let p = err_from_is_err_and c.from_residual.result c.from_residual.ensures.1 in
    let told : Refuses c.in_err-column.field-0.0 (column_at c.args.format c.args.rows (names c.loop-column.columns) c.loop-column.cursor) = subst (λ xs. Refuses c.in_err-column.field-0.0 (column_at c.args.format c.args.rows (names xs) c.loop-column.cursor)) c.as_slice.ensures (c.in_err-column.ensures {u = tt}) in
    rw (p.1, p.2) (column_refused c.args.format c.args.rows c.loop-column.columns c.args.count c.loop-column._column c.loop-column.cursor _ _ c.loop-column-test.true told c.loop-column.invariant)

pub loop-column-preserved : goal.loop-column-preserved
loop-column-preserved c =
    let told : column_at c.args.format c.args.rows (names c.loop-column.columns) c.loop-column.cursor ≡ Ok (c.in_ok-column.column, c.read_column.new.cursor) = subst (λ xs. column_at c.args.format c.args.rows (names xs) c.loop-column.cursor ≡ Ok (c.in_ok-column.column, c.read_column.new.cursor)) c.as_slice.ensures (c.in_ok-column.ensures {u = tt}) in
    subst (λ xs. with_front xs (columns_at c.args.format c.args.rows (c.args.count - (c.loop-column._column + 1)) (names xs) c.read_column.new.cursor) ≡ columns_at c.args.format c.args.rows c.args.count [] c.args.cursor.now) (sym c.in_ok-push.ensures.ok)
    (column_taken c.args.format c.args.rows c.loop-column.columns c.args.count c.loop-column._column c.loop-column.cursor c.in_ok-column.column c.read_column.new.cursor _ c.loop-column-test.true told c.loop-column.invariant)

pub returns : goal.returns
returns c = columns_done c.args.format c.args.rows c.loop-column.columns c.args.count c.loop-column._column c.loop-column.cursor _ c.loop-column-test.false c.loop-column.invariant
