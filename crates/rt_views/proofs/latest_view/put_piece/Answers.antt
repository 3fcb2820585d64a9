use Rattle.std.proofs.Common.{◌∙◌, ap, arith, length, sym}
use Rattle.rt_views.proofs.latest_view.put_piece.Goals as goal

pub put_rows-requires-clause-kinds : goal.put_rows-requires-clause-kinds
put_rows-requires-clause-kinds c = λ i d within. c.rows_if-rows.ensures.right i d within ∙ sym c.requires.kinds

pub put_rows-requires-clause-few : goal.put_rows-requires-clause-few
put_rows-requires-clause-few c = omega (arith, ap length c.rows_if-rows.ensures.rows)
