-- One column after another takes its value of a row more.
use Rattle.std.proofs.Common.{◌≡◌, ℕ, ◌+◌, ◌<◌, ◌≤◌, List, ◌++◌, length, map, take, drop, set, get_or, slice_get, Some, All, refl, sym, ap, subst, ◌∙◌, arith, length-take}
use Rattle.std.proofs.lemmas.List.{set-get_or, take-set, length-map}
use Rattle.std.proofs.lemmas.Option.{slice_get_read, slice_get-map, get_or_from_slice_get, same_Some}
use Rattle.std.specs.Option.{option_map}
use Rattle.rt_schema.specs.declared.value.Value.{Value}
use Rattle.rt_schema.specs.Value.{kind_of}
use Rattle.rt_mutable.specs.Column.{Filled}
use Rattle.rt_mutable.specs.Columns.{with_value, with_values, without_last}
use Rattle.rt_mutable.proofs.Rows.{length_with, column_kept, with_next, taken_back, have_some}

module _ (columns now : List Filled) (values : List Value) (place : ℕ) (x : Filled) (e : now ≡ with_values columns (take place values)) (lt : place < length columns) (here : x ≡ get_or now place x) where
  at_now : slice_get now place ≡ Some x
  at_now = slice_get_read now (length now) place x refl (omega (arith, lt, ap length e, length_with columns (take place values))) here

  at_first : slice_get columns place ≡ Some x
  at_first = sym (column_kept columns (take place values) place (omega (arith, length-take place values))) ∙ ap (λ cs. slice_get cs place) (sym e) ∙ at_now

  pub room_at : (limit : ℕ) → All (λ column. length column.values < limit) columns → length (get_or now place x).values < limit
  room_at limit room =
      let same : get_or columns place x ≡ get_or now place x = get_or_from_slice_get columns place x x at_first ∙ here in
      subst (λ (c : Filled). length c.values < limit) same (room place x lt)

  module _ (v : Value) (there : v ≡ get_or values place v) (enough : place < length values) where
    at_value : slice_get values place ≡ Some v
    at_value = slice_get_read values (length values) place v refl enough there

    pub kind_at : map kind_of values ≡ map (λ column. column.shape.kind) columns → kind_of v ≡ (get_or now place x).shape.kind
    kind_at kinds =
        same_Some _ _ (ap (option_map kind_of) (sym at_value) ∙ sym (slice_get-map kind_of values place) ∙ ap (λ ks. slice_get ks place) kinds ∙ slice_get-map (λ (column : Filled). column.shape.kind) columns place ∙ ap (option_map (λ (column : Filled). column.shape.kind)) at_first)
        ∙ ap (λ (column : Filled). column.shape.kind) here

    pub next_at : (y : Filled) → y ≡ with_value (get_or now place x) v → set now place y ≡ with_values columns (take (place + 1) values)
    next_at y f =
        (λ j. set (e j) place (f j)) ∙ ap (λ c. set (with_values columns (take place values)) place (with_value c v)) (sym here)
        ∙ with_next columns values place x v (ap (λ cs. slice_get cs place) (sym e) ∙ at_now) at_value

  module _ (enough : place ≤ length values) where
    pub some_at : (y : Filled) → All (λ column. 0 < length column.values) (take place (set now place y))
    some_at y = subst (All (λ column. 0 < length column.values)) (ap (take place) (sym e) ∙ sym (take-set now place y))
        (have_some columns (take place values) place (omega (arith, length-take place values)))

    pub back_at : (y : Filled) (left : List Filled) → y ≡ get_or now place x → left ≡ map without_last (take place (set now place y)) → left ++ drop place (set now place y) ≡ columns
    back_at y left f g =
        let kept : set now place y ≡ with_values columns (take place values) = ap (set now place) f ∙ set-get_or now place x ∙ e in
        ap (λ l. l ++ drop place (set now place y)) g
        ∙ ap (λ cs. map without_last (take place cs) ++ drop place cs) kept
        ∙ taken_back columns (take place values) place (omega (arith, length-take place values)) (omega (arith, lt))

pub same_count : (columns : List Filled) (values : List Value) → map kind_of values ≡ map (λ column. column.shape.kind) columns → length values ≡ length columns
same_count columns values kinds = omega (arith, ap length kinds, length-map values kind_of, length-map columns (λ (column : Filled). column.shape.kind))
