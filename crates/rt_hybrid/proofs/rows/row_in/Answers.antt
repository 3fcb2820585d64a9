use Rattle.std.proofs.Common.{◌∙◌, sym}
use Rattle.serde_json.specs.View.{view}
use Rattle.rt_hybrid.proofs.ObjectRows.{row_of_cells}
use Rattle.rt_hybrid.proofs.rows.row_in.Goals as goal

pub returns-in-Some : goal.returns-in-Some
returns-in-Some c =
    row_of_cells c.args.columns.now (view c.args.json.now) c.in-Some.values (sym c.is_object.ensures ∙ c.if-not-is_object.false)
    (sym c.in-Some.is ∙ c.in_ok-values.ensures {u = tt})
