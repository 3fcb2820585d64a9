use Rattle.std.proofs.Common.{◌≡◌, Ok, get_or, subst}
use Rattle.std.proofs.lemmas.Result.{err_from_is_err_and}
use Rattle.rt_segment.specs.Cursor.{Refuses}
use Rattle.rt_segment.specs.Reading.{this_number}
use Rattle.rt_segment.proofs.Rows.{row_taken, row_refused, rows_done}
use Rattle.rt_segment.proofs.postings_reader.check_rows.Goals as goal

pub returns-in_err-check_number : goal.returns-in_err-check_number
returns-in_err-check_number c =
    let p = err_from_is_err_and c.from_residual.result c.from_residual.ensures.1 in
    let wanted : Refuses c.in_err-check_number.field-0.0 (this_number (get_or c.args.rows.now c.loop-row.row-index 0) c.loop-row.cursor) = subst (λ n. Refuses c.in_err-check_number.field-0.0 (this_number n c.loop-row.cursor)) c.from.ensures (c.in_err-check_number.ensures {u = tt}) in
    rw (p.1, p.2) (row_refused c.args.rows.now c.loop-row.row-index c.loop-row.cursor _ _ c.loop-row-test.true wanted c.loop-row.invariant)

pub loop-row-preserved : goal.loop-row-preserved
loop-row-preserved c =
    let wanted : this_number (get_or c.args.rows.now c.loop-row.row-index 0) c.loop-row.cursor ≡ Ok (tt, c.check_number.new.cursor) = subst (λ n. this_number n c.loop-row.cursor ≡ Ok (tt, c.check_number.new.cursor)) c.from.ensures (c.in_ok-check_number.ensures {u = tt}) in
    row_taken c.args.rows.now c.loop-row.row-index c.loop-row.cursor _ c.check_number.new.cursor c.loop-row-test.true wanted c.loop-row.invariant

pub returns : goal.returns
returns c = rows_done c.args.rows.now c.loop-row.row-index c.loop-row.cursor _ c.loop-row-test.false c.loop-row.invariant
