-- What is left of a sorted list when each value that is not past the last one kept is left out.
use Rattle.std.proofs.Common.{◌≡◌, ℕ, ◌+◌, ◌-◌, ◌<◌, Bool, true, false, List, [], ◌∷◌, ◌++◌, length, map, Some, None, Option, get_or, slice_get, refl, sym, ap, ◌∙◌, subst, inl, inr, arith}
use Rattle.std.specs.Cmp.{IsStrictWeakOrder}
use Rattle.std.specs.List.{Contains}
use Rattle.std.specs.List.Sorted.{IsSortedBy, IsPermutation}
use Rattle.std.proofs.lemmas.Bool.{cases_Bool, cases_eq, true≢false}
use Rattle.std.proofs.Math.Seq.{get_or-append_seam}
use Rattle.std.proofs.lemmas.List.{get_or_append_left, length-append, length-map, get_or-map}
use Rattle.std.proofs.lemmas.List.Elements.{Contains-append_left, Contains-push, Contains-push_cases}
use Rattle.std.proofs.lemmas.List.Quantifiers.{all_pairs_push}
use Rattle.std.proofs.lemmas.List.Sorted.{sorted_far, Contains-permutation, IsPermutation-sym}
use Rattle.std.proofs.lemmas.Option.{slice_get-get_or, slice_get_within, get_or_from_slice_get, none-some}
use Rattle.rt_dict.specs.Order.{IsStrictOrder}
use Rattle.rt_dict.specs.Values.{IsAscending, AreDistinctValues, is_past, is_past_last}
use Rattle.rt_dict.proofs.Ascending.{below_one_way}

module _ {K : Type 0} {below : K → K → Bool} (order : IsStrictOrder below) where
  below_chain : (x y z : K) → below x y ≡ false → below y z ≡ false → below x z ≡ false
  below_chain x y z p q = elim (cases_Bool (below x z)) [
    | inr apart ↦ apart
    | inl lt ↦ elim (cases_Bool (below z y)) [
      | inl up ↦ absurd (true≢false (sym (order.transitive x z y lt up) ∙ p))
      | inr same ↦ absurd (true≢false (sym lt ∙ ap (below x) (sym (order.total y z q same)) ∙ p))
    ]
  ]

  -- a sort by `below` may be asked for
  pub weak_order : IsStrictWeakOrder below
  weak_order = record { one_way = below_one_way order; chain = below_chain }

  pub no_values : AreDistinctValues below [] []
  no_values = record { ascending = λ i j d lt in_range. absurd (omega arith); each_stands = λ x at. at; none_else = λ x at. at }

  module _ (front distinct : List K) (x : K) (kept : AreDistinctValues below front distinct) where
    ends_below : (last : K) → slice_get distinct (length distinct - 1) ≡ Some last → below last x ≡ true → (k : ℕ) (d : K) → k < length distinct → below (get_or distinct k d) x ≡ true
    ends_below last at lt k d in_range = elim (cases_eq k (length distinct - 1)) [
      | inl same ↦ subst (λ y. below y x ≡ true) (sym (ap (λ n. get_or distinct n d) same ∙ get_or_from_slice_get distinct (length distinct - 1) last d at)) lt
      | inr apart ↦ order.transitive (get_or distinct k d) last x (subst (λ y. below (get_or distinct k d) y ≡ true) (get_or_from_slice_get distinct (length distinct - 1) last d at) (kept.ascending k (length distinct - 1) d (omega arith) (omega arith))) lt
    ]

    all_below : (last : Option K) → slice_get distinct (length distinct - 1) ≡ last → is_past below last x ≡ true → (k : ℕ) (d : K) → k < length distinct → below (get_or distinct k d) x ≡ true
    all_below None at past k d in_range = absurd (none-some _ (sym at ∙ slice_get-get_or distinct (length distinct - 1) d (omega arith)))
    all_below (Some last) at past k d in_range = ends_below last at past k d in_range

    -- a value past the last one is kept
    pub distinct_past : is_past_last below distinct x ≡ true → AreDistinctValues below (front ++ x ∷ []) (distinct ++ x ∷ [])
    distinct_past past = record {
      ascending = all_pairs_push (λ y z. below y z ≡ true) distinct x kept.ascending (all_below _ refl past);
      each_stands = λ y at. elim (Contains-push_cases front x y at) [
        | inl earlier ↦ Contains-append_left distinct _ y (kept.each_stands y earlier)
        | inr same ↦ subst (Contains (distinct ++ x ∷ [])) same (Contains-push distinct x)
      ];
      none_else = λ y at. elim (Contains-push_cases distinct x y at) [
        | inl earlier ↦ Contains-append_left front _ y (kept.none_else y earlier)
        | inr same ↦ subst (Contains (front ++ x ∷ [])) same (Contains-push front x)
      ];
    }

    -- one that is no less than all before it, and not past the last one, is that one
    pub last_is : (last : Option K) → slice_get distinct (length distinct - 1) ≡ last → is_past below last x ≡ false → ((y : K) → Contains front y → below x y ≡ false) → slice_get distinct (length distinct - 1) ≡ Some x
    last_is None at past rises = absurd (true≢false past)
    last_is (Some last) at past rises =
        let in_range = slice_get_within distinct (length distinct - 1) last at in
        let stands : Contains distinct last = (length distinct - 1, in_range, get_or_from_slice_get distinct (length distinct - 1) last last at) in
        at ∙ ap Some (order.total last x past (rises last (kept.none_else last stands)))

    stands_last : is_past_last below distinct x ≡ false → ((y : K) → Contains front y → below x y ≡ false) → Contains distinct x
    stands_last past rises =
        let at = last_is (slice_get distinct (length distinct - 1)) refl past rises in
        (length distinct - 1, slice_get_within distinct (length distinct - 1) x at, get_or_from_slice_get distinct (length distinct - 1) x x at)

    pub distinct_same : is_past_last below distinct x ≡ false → ((y : K) → Contains front y → below x y ≡ false) → AreDistinctValues below (front ++ x ∷ []) distinct
    distinct_same past rises = record {
      ascending = kept.ascending;
      each_stands = λ y at. elim (Contains-push_cases front x y at) [
        | inl earlier ↦ kept.each_stands y earlier
        | inr same ↦ subst (Contains distinct) same (stands_last past rises)
      ];
      none_else = λ y at. Contains-append_left front _ y (kept.none_else y at);
    }

  -- the value of a sorted list behind a front of it
  module _ (front rest : List K) (x : K) (sorted : IsSortedBy below (front ++ x ∷ rest)) (distinct : List K) (kept : AreDistinctValues below front distinct) where
    none_above : (y : K) → Contains front y → below x y ≡ false
    none_above y at =
        let within : length front < length (front ++ x ∷ rest) = omega (arith, length-append front (x ∷ rest)) in
        subst (λ z. below z y ≡ false) (get_or-append_seam front x rest y)
        (subst (λ z. below (get_or (front ++ x ∷ rest) (length front) y) z ≡ false) (get_or_append_left front (x ∷ rest) y at.0 at.1 ∙ at.2)
        (sorted_far below weak_order (front ++ x ∷ rest) sorted at.0 (length front) y (omega (arith, at.1)) within))

    pub past_more : is_past_last below distinct x ≡ true → AreDistinctValues below (front ++ x ∷ []) (distinct ++ x ∷ [])
    past_more past = distinct_past front distinct x kept past

    pub same_more : is_past_last below distinct x ≡ false → AreDistinctValues below (front ++ x ∷ []) distinct
    same_more past = distinct_same front distinct x kept past none_above

    -- one that is left out is the last one that was kept
    pub same_last : is_past_last below distinct x ≡ false → slice_get distinct (length distinct - 1) ≡ Some x
    same_last past = last_is front distinct x kept (slice_get distinct (length distinct - 1)) refl past none_above

  -- items sorted by their keys have sorted keys
  module _ {X : Type 0} (key : X → K) where
    pub weak_order-by : IsStrictWeakOrder (λ (a b : X). below (key a) (key b))
    weak_order-by = record { one_way = λ a b. below_one_way order (key a) (key b); chain = λ a b d. below_chain (key a) (key b) (key d) }

    pub sorted-map_by : (xs : List X) → IsSortedBy (λ a b. below (key a) (key b)) xs → IsSortedBy below (map key xs)
    sorted-map_by [] sorted k d low in_range = absurd (omega arith)
    sorted-map_by (x ∷ xs) sorted k d low in_range =
        let within : k + 1 < length (x ∷ xs) = omega (arith, length-map (x ∷ xs) key) in
        let item : (i : ℕ) → i < length (x ∷ xs) → get_or (map key (x ∷ xs)) i d ≡ key (get_or (x ∷ xs) i x) = λ i lt. get_or-map key (x ∷ xs) i x d lt in
        ap (λ y. below y (get_or (map key (x ∷ xs)) k d)) (item (k + 1) within) ∙ ap (below (key (get_or (x ∷ xs) (k + 1) x))) (item k (omega arith)) ∙ sorted k x low within

-- the order of a list does not matter for its distinct values
pub distinct_from_permutation : {K : Type 0} (below : K → K → Bool) (xs ys distinct : List K) → IsPermutation xs ys → AreDistinctValues below ys distinct → AreDistinctValues below xs distinct
distinct_from_permutation below xs ys distinct moved kept = record {
  ascending = kept.ascending;
  each_stands = λ x at. kept.each_stands x (Contains-permutation xs ys x moved at);
  none_else = λ x at. Contains-permutation ys xs x (IsPermutation-sym xs ys moved) (kept.none_else x at);
}

-- an ascending list with a value past its last one
pub ascending_push : {K : Type 0} {below : K → K → Bool} (order : IsStrictOrder below) (values : List K) (x : K) → IsAscending below values → is_past_last below values x ≡ true → IsAscending below (values ++ x ∷ [])
ascending_push order values x up past = (distinct_past order values values x (record { ascending = up; each_stands = λ z at. at; none_else = λ z at. at }) past).ascending
