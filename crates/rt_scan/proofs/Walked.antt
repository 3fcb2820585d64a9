-- The rows of a set, one after the other.
use Rattle.std.proofs.Common.{◌≡◌, ℕ, zero, suc, ◌+◌, ◌-◌, ◌<◌, ◌≤◌, Bool, true, false, not, cond, List, [], ◌∷◌, ◌++◌, length, map, take, filter, get_or, refl, ap, sym, ◌∙◌, inl, inr, arith}
use Rattle.std.proofs.Math.ListN.{get_or-map}
use Rattle.std.proofs.lemmas.Bool.{cases_lt, true≢false}
use Rattle.std.proofs.lemmas.List.{length-map, length-take, get_or_past, get_or_default, append-nil, take_all}
use Rattle.std.proofs.lemmas.List.Elements.{filter_more}
use Rattle.std.proofs.lemmas.List.Filters.{length-filter_both}
use Rattle.rt_postings.specs.DocSet.{has_row, IsNextFrom, HasNoneFrom}

module _ {X : Type 0} (p : X → Bool) (xs : List X) (d : X) where
  pub has_is : (r : ℕ) → r < length xs → has_row (map p xs) r ≡ p (get_or xs r d)
  has_is r h = get_or_default (map p xs) r false (p d) (omega (arith, h, length-map xs p)) ∙ get_or-map p xs r d

  pub row_within : (r : ℕ) → has_row (map p xs) r ≡ true → r < length xs
  row_within r t = elim (cases_lt r (length xs)) [
    | inl less ↦ less
    | inr more ↦ absurd (true≢false (sym t ∙ get_or_past (map p xs) r false (omega (arith, more, length-map xs p))))
  ]

  -- rows that don't pass add nothing
  skipped : (n k : ℕ) → n + k ≤ length xs → ((r : ℕ) → n ≤ r → r < n + k → has_row (map p xs) r ≡ false) → filter p (take (n + k) xs) ≡ filter p (take n xs)
  skipped n zero h none = let e : n + 0 ≡ n = omega arith in ap (λ m. filter p (take m xs)) e
  skipped n (suc k) h none =
      let e : n + suc k ≡ (n + k) + 1 = omega arith in
      ap (λ m. filter p (take m xs)) e
      ∙ filter_more p xs (n + k) d (omega (arith, h))
      ∙ ap (λ b. filter p (take (n + k) xs) ++ cond b (get_or xs (n + k) d ∷ []) []) (sym (has_is (n + k) (omega (arith, h))) ∙ none (n + k) (omega arith) (omega arith))
      ∙ append-nil (filter p (take (n + k) xs))
      ∙ skipped n k (omega (arith, h)) (λ r low high. none r low (omega (arith, high)))

  none_between : (n m : ℕ) → n ≤ m → m ≤ length xs → ((r : ℕ) → n ≤ r → r < m → has_row (map p xs) r ≡ false) → filter p (take m xs) ≡ filter p (take n xs)
  none_between n m low high none =
      let e : n + (m - n) ≡ m = omega (arith, low) in
      ap (λ k. filter p (take k xs)) (sym e) ∙ skipped n (m - n) (omega (arith, low, high)) (λ r l h. none r l (omega (arith, h, low)))

  -- the next row of the set is the next that passes
  pub next_taken : (set : List Bool) (from row : ℕ) → set ≡ map p xs → IsNextFrom set from row → filter p (take (row + 1) xs) ≡ filter p (take from xs) ++ get_or xs row d ∷ []
  next_taken set from row e next =
      let there : has_row (map p xs) row ≡ true = ap (λ s. has_row s row) (sym e) ∙ next.within in
      let inside = row_within row there in
      filter_more p xs row d inside
      ∙ ap (λ b. filter p (take row xs) ++ cond b (get_or xs row d ∷ []) []) (sym (has_is row inside) ∙ there)
      ∙ ap (λ ys. ys ++ get_or xs row d ∷ []) (none_between from row next.reached (omega (arith, inside)) (λ r low high. ap (λ s. has_row s r) (sym e) ∙ next.first r low high))

  pub next_within : (set : List Bool) (from row : ℕ) → set ≡ map p xs → IsNextFrom set from row → row < length xs
  next_within set from row e next = row_within row (ap (λ s. has_row s row) (sym e) ∙ next.within)

  -- and where there is none, all were taken
  pub all_taken : (set : List Bool) (from : ℕ) → set ≡ map p xs → from ≤ length xs → HasNoneFrom set from → filter p (take from xs) ≡ filter p xs
  all_taken set from e within none =
      sym (none_between from (length xs) within (omega arith) (λ r low high. ap (λ s. has_row s r) (sym e) ∙ none r low))
      ∙ ap (filter p) (take_all (length xs) xs (omega arith))

  pub few_taken : (n : ℕ) → length (filter p (take n xs)) ≤ length xs
  few_taken n = omega (arith, length-filter_both p (λ x. not (p x)) (λ x. refl) (take n xs), length-take n xs)
