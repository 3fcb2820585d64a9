-- Two ascending lists of the same values are one list.
use Rattle.std.proofs.Common.{◌≡◌, ℕ, zero, suc, ◌<◌, Bool, true, List, [], ◌∷◌, length, get_or, refl, sym, ap, ◌∙◌, subst, inl, inr, arith}
use Rattle.std.specs.Prelude.{◌⊎◌}
use Rattle.std.specs.List.{Contains}
use Rattle.std.proofs.lemmas.Bool.{true≢false}
use Rattle.rt_dict.specs.Order.{IsStrictOrder}
use Rattle.rt_dict.specs.Values.{IsAscending}
use Rattle.rt_dict.proofs.Ascending.{below_one_way}

found_first : {X : Type 0} (x : X) (xs : List X) (z : X) (k : ℕ) → k < length (x ∷ xs) → get_or (x ∷ xs) k z ≡ z → (x ≡ z) ⊎ Contains xs z
found_first x xs z zero in_range at = inl at
found_first x xs z (suc k) in_range at = inr (k, omega arith, at)

-- what a list has is its first value or stands in the rest
Contains-cons_cases : {X : Type 0} (x : X) (xs : List X) (z : X) → Contains (x ∷ xs) z → (x ≡ z) ⊎ Contains xs z
Contains-cons_cases x xs z at = found_first x xs z at.0 at.1 at.2

Contains-head : {X : Type 0} (x : X) (xs : List X) → Contains (x ∷ xs) x
Contains-head x xs = (0, omega arith, refl)

Contains-tail : {X : Type 0} (x : X) (xs : List X) (z : X) → Contains xs z → Contains (x ∷ xs) z
Contains-tail x xs z at = (suc at.0, omega (arith, at.1), at.2)

module _ {K : Type 0} {below : K → K → Bool} (order : IsStrictOrder below) where
  ascending_tail : (x : K) (xs : List K) → IsAscending below (x ∷ xs) → IsAscending below xs
  ascending_tail x xs up i j d lt in_range = up (suc i) (suc j) d (omega arith) (omega arith)

  first_below : (x : K) (xs : List K) (z : K) → IsAscending below (x ∷ xs) → Contains xs z → below x z ≡ true
  first_below x xs z up at = subst (λ y. below x y ≡ true) at.2 (up 0 (suc at.0) z (omega arith) (omega (arith, at.1)))

  same_first : (x y : K) (xs ys : List K) → IsAscending below (x ∷ xs) → IsAscending below (y ∷ ys) → Contains (y ∷ ys) x → Contains (x ∷ xs) y → x ≡ y
  same_first x y xs ys up up' there back = elim (Contains-cons_cases y ys x there) [
    | inl same ↦ sym same
    | inr later ↦ elim (Contains-cons_cases x xs y back) [
      | inl same ↦ same
      | inr later' ↦ absurd (true≢false (sym (first_below y ys x up' later) ∙ below_one_way order x y (first_below x xs y up later')))
    ]
  ]

  rest_within : (x y : K) (xs ys : List K) → x ≡ y → IsAscending below (x ∷ xs) → (z : K) → Contains xs z → Contains (y ∷ ys) z → Contains ys z
  rest_within x y xs ys same up z at there = elim (Contains-cons_cases y ys z there) [
    | inl first ↦ absurd (true≢false (sym (first_below x xs z up at) ∙ ap (below x) (sym (same ∙ first)) ∙ order.irreflexive x))
    | inr later ↦ later
  ]

  pub same_ascending : (xs ys : List K) → IsAscending below xs → IsAscending below ys → ((z : K) → Contains xs z → Contains ys z) → ((z : K) → Contains ys z → Contains xs z) → xs ≡ ys
  same_ascending [] [] up up' there back = refl
  same_ascending [] (y ∷ ys) up up' there back = absurd (none_in_nil (back y (Contains-head y ys)))
    where
      none_in_nil : Contains [] y → ⊥
      none_in_nil at = omega (arith, at.1)
  same_ascending (x ∷ xs) [] up up' there back = absurd (none_in_nil (there x (Contains-head x xs)))
    where
      none_in_nil : Contains [] x → ⊥
      none_in_nil at = omega (arith, at.1)
  same_ascending (x ∷ xs) (y ∷ ys) up up' there back =
      let first : x ≡ y = same_first x y xs ys up up' (there x (Contains-head x xs)) (back y (Contains-head y ys)) in
      let rest : xs ≡ ys = same_ascending xs ys (ascending_tail x xs up) (ascending_tail y ys up')
      (λ z at. rest_within x y xs ys first up z at (there z (Contains-tail x xs z at)))
      (λ z at. rest_within y x ys xs (sym first) up' z at (back z (Contains-tail y ys z at))) in
      ap (λ a. a ∷ xs) first ∙ ap (λ zs. y ∷ zs) rest
