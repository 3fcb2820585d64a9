use Rattle.std.proofs.Common.{ap, ◌∙◌, subst, List, ℕ, Option}
use Rattle.rt_mutable.specs.Column.{same_value, values_in}
use Rattle.rt_mutable.specs.Index.{IsIndex, rows_found}
use Rattle.rt_mutable.specs.RowLists.{numbers_where}
use Rattle.rt_mutable.proofs.Indexed.{docs_found}
use Rattle.rt_mutable.proofs.mutable_column.MutableColumn.docs_equal.Goals as goal

pub returns : goal.returns
returns c =
    let kept = subst (λ (docs : Option (List (List ℕ))). IsIndex docs (values_in c.self.inside.values)) c.in-Some.is c.self.invariant in
    c.rows_at.ensures ∙ ap (rows_found c.in-Some.lists) c.id_of.ensures
    ∙ docs_found (values_in c.self.inside.values) c.in-Some.lists c.args.value.now kept
    ∙ ap (λ f. numbers_where (same_value c.args.value.now) f.values) c.self.view_is
