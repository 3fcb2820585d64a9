-- Ascending lists of keys: where a key stands, and how a test of the keys splits the list.
use Rattle.std.proofs.Common.{◌≡◌, ℕ, ◌<◌, ◌≤◌, Bool, true, false, List, length, Some, get_or, slice_get, sym, ap, ◌∙◌, subst, inl, inr, arith}
use Rattle.std.specs.Prelude.{not}
use Rattle.std.specs.List.Sorted.{IsPartitionedBy, IsPartitionPoint}
use Rattle.std.proofs.lemmas.Bool.{cases_eq, cases_order, cases_Bool, true≢false, not-true}
use Rattle.std.proofs.lemmas.Option.{slice_get_within, get_or_from_slice_get, slice_get-get_or}
use Rattle.rt_dict.specs.Order.{IsStrictOrder}
use Rattle.rt_dict.specs.Values.{IsAscending}

module _ {K : Type 0} {below : K → K → Bool} (order : IsStrictOrder below) where
  -- of two keys one of which is below the other, the other is not below the one
  pub below_one_way : (x y : K) → below x y ≡ true → below y x ≡ false
  below_one_way x y lt = elim (cases_Bool (below y x)) [
    | inl back ↦ absurd (true≢false (sym (order.transitive x y x lt back) ∙ order.irreflexive x))
    | inr apart ↦ apart
  ]

  module _ (xs : List K) (ascending : IsAscending below xs) where
    -- values at two places, the earlier first
    pub ascends : (i j : ℕ) (x y : K) → i < j → slice_get xs i ≡ Some x → slice_get xs j ≡ Some y → below x y ≡ true
    ascends i j x y lt at_i at_j = subst (λ z. below z y ≡ true) (get_or_from_slice_get xs i x y at_i) (subst (λ z. below (get_or xs i y) z ≡ true) (get_or_from_slice_get xs j y y at_j) (ascending i j y lt (slice_get_within xs j y at_j)))

    -- two ids with the same value are the same id
    pub same_id : (i j : ℕ) (x : K) → slice_get xs i ≡ Some x → slice_get xs j ≡ Some x → i ≡ j
    same_id i j x at_i at_j = elim (cases_order i j) [
      | inl same ↦ same
      | inr apart ↦ elim apart [
        | inl lt ↦ absurd (true≢false (sym (ascends i j x x lt at_i at_j) ∙ order.irreflexive x))
        | inr gt ↦ absurd (true≢false (sym (ascends j i x x gt at_j at_i) ∙ order.irreflexive x))
      ]
    ]

    -- the values below a key come before the others
    pub partitioned_below : (key : K) → IsPartitionedBy (λ x. below x key) xs
    partitioned_below key i j d le in_range passes = elim (cases_eq i j) [
      | inl same ↦ subst (λ k. below (get_or xs k d) key ≡ true) (sym same) passes
      | inr apart ↦ order.transitive (get_or xs i d) (get_or xs j d) key (ascending i j d (omega arith) in_range) passes
    ]

    -- the values that are not above a key come before the others
    pub partitioned_up_to : (key : K) → IsPartitionedBy (λ x. not (below key x)) xs
    partitioned_up_to key i j d le in_range passes = elim (cases_eq i j) [
      | inl same ↦ subst (λ k. not (below key (get_or xs k d)) ≡ true) (sym same) passes
      | inr apart ↦ elim (cases_Bool (below key (get_or xs i d))) [
        | inl above ↦ absurd (true≢false (sym (order.transitive key (get_or xs i d) (get_or xs j d) above (ascending i j d (omega arith) in_range)) ∙ not-true _ passes))
        | inr rest ↦ ap not rest
      ]
    ]

    -- a key that stands in the list stands where the values below it end
    pub id_at_split : (key : K) (n id : ℕ) → IsPartitionPoint (λ x. below x key ≡ true) (λ x. below x key ≡ false) xs n → slice_get xs id ≡ Some key → id ≡ n
    id_at_split key n id split at = elim (cases_order id n) [
      | inl same ↦ same
      | inr apart ↦ elim apart [
        | inl before ↦ absurd (true≢false (sym (split.0 id key (omega arith) before) ∙ ap (λ x. below x key) (get_or_from_slice_get xs id key key at) ∙ order.irreflexive key))
        | inr after ↦ absurd (true≢false (sym (subst (λ x. below (get_or xs n key) x ≡ true) (get_or_from_slice_get xs id key key at) (ascending n id key after (slice_get_within xs id key at))) ∙ split.1 n key (omega arith) (omega (arith, slice_get_within xs id key at))))
      ]
    ]

    -- a key does not stand in the list where no value is left at that place
    pub absent_past : (key : K) (n id : ℕ) → IsPartitionPoint (λ x. below x key ≡ true) (λ x. below x key ≡ false) xs n → length xs ≤ n → slice_get xs id ≡ Some key → ⊥
    absent_past key n id split past at = omega (arith, id_at_split key n id split at, slice_get_within xs id key at)

    -- nor where the value at that place is above it
    pub absent_below : (key x : K) (n id : ℕ) → IsPartitionPoint (λ y. below y key ≡ true) (λ y. below y key ≡ false) xs n → x ≡ get_or xs n x → true ≡ below key x → slice_get xs id ≡ Some key → ⊥
    absent_below key x n id split value above at =
        let here : get_or xs n x ≡ key = subst (λ k. get_or xs k x ≡ key) (id_at_split key n id split at) (get_or_from_slice_get xs id key x at) in
        true≢false (above ∙ ap (below key) (value ∙ here) ∙ order.irreflexive key)

    -- it stands there where that value is not above it
    pub present_at : (key x : K) (n : ℕ) → IsPartitionPoint (λ y. below y key ≡ true) (λ y. below y key ≡ false) xs n → n < length xs → x ≡ get_or xs n x → false ≡ below key x → slice_get xs n ≡ Some key
    present_at key x n split in_range value apart =
        slice_get-get_or xs n x in_range ∙ ap Some (sym value ∙ order.total x key (ap (λ y. below y key) value ∙ split.1 n x (omega arith) in_range) (sym apart))
