use Rattle.std.proofs.Common.{◌≡◌, ◌<◌, ℕ, List, length, get_or, slice_get, Some, ap, subst, sym, ◌∙◌, arith, Ok, Err, IfOk, Result}
use Rattle.rt_schema.specs.declared.value.Value.{Value}
use Rattle.rt_mutable.specs.Arrivals.{arrivals_of, ids_of}
use Rattle.rt_mutable.specs.Column.{same_value, values_in}
use Rattle.rt_mutable.proofs.Arriving.{value_of_row, id_of_row_within}
use Rattle.rt_mutable.proofs.Same.{same_laws, same_exact}
use Rattle.rt_mutable.proofs.mutable_column.MutableColumn.value_in.Goals as goal

value_by_row : {E : Type 0} (vs : List Value) (row id : ℕ) (r : Result Value E) → row < length vs → id ≡ get_or (ids_of same_value vs) row 0 → IfOk r (λ value. slice_get (arrivals_of same_value vs) id ≡ Some value) → IfOk r (λ value. slice_get vs row ≡ Some value)
value_by_row vs row id (Ok v) lt e h = sym (value_of_row same_laws same_exact vs row lt) ∙ ap (slice_get (arrivals_of same_value vs)) (sym e) ∙ h
value_by_row vs row id (Err e) lt f h = tt

pub value-requires : goal.value-requires
value-requires c =
    rw c.ids.ensures (id_of_row_within same_laws same_exact (values_in c.self.inside.values) c.args.row (omega (arith, c.requires, ap (λ f. length f.values) c.self.view_is)))

pub returns : goal.returns
returns c =
    subst (λ (vs : List Value). IfOk c.value.result (λ value. slice_get vs c.args.row ≡ Some value)) (ap (λ f. f.values) c.self.view_is)
    (value_by_row (values_in c.self.inside.values) c.args.row _ c.value.result (omega (arith, c.requires, ap (λ f. length f.values) c.self.view_is))
    (ap (λ l. get_or l c.args.row 0) c.ids.ensures) c.value.ensures)
