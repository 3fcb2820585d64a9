-- The values of a consuming column by their ids.
use Rattle.std.proofs.Common.{◌≡◌, ℕ, zero, suc, ◌+◌, ◌<◌, ◌≤◌, Bool, true, false, cond, not, min, List, [], ◌∷◌, length, map, take, get_or, slice_get, Some, ap, sym, subst, ◌∙◌, inl, inr, arith, All}
use Rattle.std.specs.List.{position_or_len}
use Rattle.std.proofs.Math.ListN.{get_or-map}
use Rattle.std.proofs.lemmas.Bool.{cases_lt, false≢true}
use Rattle.std.proofs.lemmas.List.{length-map, length-take, get_or_default, get_or-take, take-map, take_min, same_lists}
use Rattle.std.proofs.lemmas.List.Elements.{All-take}
use Rattle.std.proofs.lemmas.Option.{slice_get-get_or, get_or_from_slice_get}
use Rattle.rt_schema.specs.declared.value.Value.{Value}
use Rattle.rt_schema.specs.declared.value.Value.TheVariants as value
use Rattle.rt_mutable.specs.Arrivals.{arrivals_of, id_among, ids_of}
use Rattle.rt_mutable.specs.Column.{same_value}
use Rattle.rt_mutable.proofs.Arriving.{value_of_row, id_of_row_within, length_ids}
use Rattle.rt_mutable.proofs.Same.{same_laws, same_exact}
use Rattle.rt_seek.specs.RowSets.{truth_at}
use Rattle.rt_seek.specs.Scalars.{led}
use Rattle.rt_seek.specs.Table.{item_at}
use Rattle.rt_seek.proofs.Held.{by_truths}

module _ (vs : List Value) where
  pub count_ids : length (ids_of same_value vs) ≡ length vs
  count_ids = length_ids same_laws same_exact vs

  pub id_known : (row : ℕ) → row < length vs → get_or (ids_of same_value vs) row 0 < length (arrivals_of same_value vs)
  id_known row h = id_of_row_within same_laws same_exact vs row h

  pub all_known : All (λ id. id < length (arrivals_of same_value vs)) (ids_of same_value vs)
  all_known k d h =
      subst (λ (id : ℕ). id < length (arrivals_of same_value vs)) (get_or_default (ids_of same_value vs) k 0 d h) (id_known k (omega (arith, h, count_ids)))

  -- the value of a row's id is the row's
  pub value_led : (row : ℕ) → row < length vs → item_at (arrivals_of same_value vs) (get_or (ids_of same_value vs) row 0) ≡ item_at vs row
  value_led row h = get_or_from_slice_get (arrivals_of same_value vs) (get_or (ids_of same_value vs) row 0) (item_at vs row) (value.Bool false)
      (value_of_row same_laws same_exact vs row h ∙ slice_get-get_or vs row (value.Bool false) h)

  pub values_led : map (λ id. item_at (arrivals_of same_value vs) id) (ids_of same_value vs) ≡ vs
  values_led =
      let f = λ (id : ℕ). item_at (arrivals_of same_value vs) id in
      let ids = ids_of same_value vs in
      same_lists (map f ids) vs (length-map ids f ∙ count_ids) (λ k d h.
      let inside : k < length ids = omega (arith, h, length-map ids f) in
      get_or_default (map f ids) k d (f 0) h ∙ get_or-map f ids k 0 ∙ value_led k (omega (arith, inside, count_ids))
      ∙ get_or_default vs k (value.Bool false) d (omega (arith, inside, count_ids)))

  -- the first rows whose ids pass are those whose values pass
  pub first_pass : (t : Value → Bool) (truths : List Bool) (rows : ℕ) → truths ≡ map t (arrivals_of same_value vs) →
      map (truth_at truths) (take (min (length (ids_of same_value vs)) rows) (ids_of same_value vs)) ≡ map t (take rows vs)
  first_pass t truths rows e =
      let ids = ids_of same_value vs in
      let least : min (length ids) rows ≡ min rows (length ids) = omega arith in
      ap (λ n. map (truth_at truths) (take n ids)) least
      ∙ ap (map (truth_at truths)) (take_min rows ids)
      ∙ sym (take-map (truth_at truths) rows ids)
      ∙ ap (take rows) (by_truths t (arrivals_of same_value vs) ids truths e all_known ∙ ap (map t) values_led)
      ∙ take-map t rows vs

  -- the values of the first rows
  pub first_values_led : (rows : ℕ) → led (arrivals_of same_value vs) (take (min (length (ids_of same_value vs)) rows) (ids_of same_value vs)) ≡ take rows vs
  first_values_led rows =
      let f = λ (id : ℕ). item_at (arrivals_of same_value vs) id in
      let ids = ids_of same_value vs in
      let least : min (length ids) rows ≡ min rows (length ids) = omega arith in
      ap (λ n. map f (take n ids)) least ∙ ap (map f) (take_min rows ids) ∙ sym (take-map f rows ids) ∙ ap (take rows) values_led

  pub some_known : (n : ℕ) → All (λ id. id < length (arrivals_of same_value vs)) (take n (ids_of same_value vs))
  some_known n = All-take (λ id. id < length (arrivals_of same_value vs)) n (ids_of same_value vs) all_known

  module _ (rows row : ℕ) where
    pub first_within : row < length (take rows vs) → (row < rows) × (row < length vs)
    first_within h = (omega (arith, h, length-take rows vs), omega (arith, h, length-take rows vs))

    pub first_item : row < rows → item_at (take rows vs) row ≡ item_at vs row
    first_item h = get_or-take rows vs row (value.Bool false) h

    pub first_led : row < rows → row < length vs → item_at (arrivals_of same_value vs) (get_or (ids_of same_value vs) row 0) ≡ item_at (take rows vs) row
    first_led less inside = value_led row inside ∙ sym (first_item less)

pub led_value : (vs : List Value) (id : ℕ) (v : Value) → slice_get (arrivals_of same_value vs) id ≡ Some v → v ≡ item_at (arrivals_of same_value vs) id
led_value vs id v at = sym (get_or_from_slice_get (arrivals_of same_value vs) id v (value.Bool false) at)

-- ---- the least id of a value

place_least : (p : Value → Bool) (xs : List Value) (i : ℕ) → i < length xs → p (item_at xs i) ≡ true → position_or_len p xs ≤ i
place_least p [] i within there = absurd (omega (arith, within))
place_least p (x ∷ xs) zero within there = by (p x) there
  where
    by : (b : Bool) → b ≡ true → cond (not b) (1 + position_or_len p xs) 0 ≤ 0
    by true e = omega arith
    by false e = absurd (false≢true e)
place_least p (x ∷ xs) (suc i) within there = by (p x) (place_least p xs i (omega (arith, within)) there)
  where
    by : (b : Bool) → position_or_len p xs ≤ i → cond (not b) (1 + position_or_len p xs) 0 ≤ suc i
    by true rest = omega arith
    by false rest = omega (arith, rest)

-- rows refer to a value by its first place
pub least_led : (vs : List Value) (row : ℕ) → row < length vs → (other : ℕ)
    → item_at (arrivals_of same_value vs) other ≡ item_at (arrivals_of same_value vs) (get_or (ids_of same_value vs) row 0) → get_or (ids_of same_value vs) row 0 ≤ other
least_led vs row within other same =
    let ks = arrivals_of same_value vs in
    let v = item_at vs row in
    let id : get_or (ids_of same_value vs) row 0 ≡ id_among same_value ks v = get_or_default (ids_of same_value vs) row 0 (id_among same_value ks (value.Bool false)) (omega (arith, within, count_ids vs)) ∙ get_or-map (id_among same_value ks) vs row (value.Bool false) in
    elim (cases_lt other (length ks)) [
      | inl inside ↦ omega (arith, id, place_least (same_value v) ks other inside (ap (same_value v) (same ∙ value_led vs row within) ∙ same_laws.refl v))
      | inr past ↦ omega (arith, id_known vs row within, past)
    ]
