use Rattle.std.proofs.Common.{◌∙◌, sym}
use Rattle.rt_views.proofs.ViewRows.{rows_are}
use Rattle.rt_views.proofs.rows.rows_if.Goals as goal

pub returns-then-are_rows-clause-right : goal.returns-then-are_rows-clause-right
returns-then-are_rows-clause-right c = rows_are c.args.schema.now c.as_slice-rows.result.now (sym c.are_rows.ensures ∙ c.if-are_rows.true)
