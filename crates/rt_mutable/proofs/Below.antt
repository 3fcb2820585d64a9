-- Rows of earlier offsets come first.
use Rattle.std.proofs.Common.{◌≡◌, ℕ, zero, suc, ◌<◌, ◌≤◌, Bool, true, false, List, [], ◌∷◌, length, map, take, filter, count_by, get_or, AllPairs, refl, sym, ap, ◌∙◌, subst, inl, inr, arith, nat_lt, length-take}
use Rattle.std.specs.List.{AllWithin}
use Rattle.std.specs.List.Sorted.{IsPartitionPoint, IsPartitionedBy}
use Rattle.std.proofs.lemmas.Bool.{cond-true, cond-false, cases_eq, ltb-true, lt-ltb}
use Rattle.std.proofs.lemmas.List.{get_or-map, length-map}
use Rattle.std.proofs.lemmas.List.Sums.{length-filter}
use Rattle.rt_base.specs.declared.numbers.Offset.{Offset}
use Rattle.rt_mutable.specs.Consuming.{Placed, is_before}

filter_none : {X : Type 0} (test : X → Bool) (xs : List X) → AllWithin (λ x. test x ≡ false) xs 0 (length xs) → filter test xs ≡ []
filter_none test [] h = refl
filter_none test (x ∷ xs) h = cond-false _ _ _ (h 0 x (omega arith) (omega arith)) ∙ filter_none test xs (λ k d low high. h (suc k) d (omega arith) (omega (arith, high)))

filter_front : {X : Type 0} (test : X → Bool) (xs : List X) (n : ℕ) → n ≤ length xs → AllWithin (λ x. test x ≡ true) xs 0 n → AllWithin (λ x. test x ≡ false) xs n (length xs) → filter test xs ≡ take n xs
filter_front test [] zero le pass fail = refl
filter_front test [] (suc n) le pass fail = refl
filter_front test (x ∷ xs) zero le pass fail = filter_none test (x ∷ xs) fail
filter_front test (x ∷ xs) (suc n) le pass fail =
    cond-true _ _ _ (pass 0 x (omega arith) (omega arith))
    ∙ ap (λ l. x ∷ l) (filter_front test xs n (omega (arith, le)) (λ k d low high. pass (suc k) d (omega arith) (omega (arith, high))) (λ k d low high. fail (suc k) d (omega (arith, low)) (omega (arith, high))))

-- offsets that ascend are split by a test for earlier ones
pub partitioned : (offsets : List Offset) (offset : Offset) → AllPairs (λ a b. a.0 < b.0) offsets → IsPartitionedBy (λ held. nat_lt held.0 offset.0) offsets
partitioned offsets offset up i j d le within passes = elim (cases_eq i j) [
  | inl same ↦ subst (λ k. nat_lt (get_or offsets k d).0 offset.0 ≡ true) (sym same) passes
  | inr apart ↦ lt-ltb _ _ (omega (arith, up i j d (omega (arith, le, apart)) within, ltb-true _ _ passes))
]

module _ (rows : List Placed) (offsets : List Offset) (e : map (λ placed. placed.offset) rows ≡ offsets) where
  size : length rows ≡ length offsets
  size = sym (length-map rows (λ placed. placed.offset)) ∙ ap length e

  offset_at : (k : ℕ) (p : Placed) (d : Offset) → k < length rows → get_or offsets k d ≡ (get_or rows k p).offset
  offset_at k p d lt = ap (λ os. get_or os k d) (sym e) ∙ get_or-map (λ placed. placed.offset) rows k p d lt

  pub first_rows : (offset : Offset) (n : ℕ) → n ≤ length offsets → IsPartitionPoint (λ held. nat_lt held.0 offset.0 ≡ true) (λ held. nat_lt held.0 offset.0 ≡ false) offsets n → filter (is_before offset) rows ≡ take n rows
  first_rows offset n le split =
      filter_front (is_before offset) rows n (omega (arith, size))
      (λ k d low high. ap (λ o. nat_lt o.0 offset.0) (sym (offset_at k d d.offset (omega (arith, size)))) ∙ split.0 k d.offset low high)
      (λ k d low high. ap (λ o. nat_lt o.0 offset.0) (sym (offset_at k d d.offset high)) ∙ split.1 k d.offset low (omega (arith, high, size)))

  pub count_rows : (offset : Offset) (n : ℕ) → n ≤ length offsets → IsPartitionPoint (λ held. nat_lt held.0 offset.0 ≡ true) (λ held. nat_lt held.0 offset.0 ≡ false) offsets n → n ≡ count_by (is_before offset) rows
  count_rows offset n le split =
      omega (arith, length-filter (is_before offset) rows, ap length (first_rows offset n le split), length-take n rows, size)

  pub offsets_ascend : AllPairs (λ a b. a.offset.0 < b.offset.0) rows → AllPairs (λ a b. a.0 < b.0) offsets
  offsets_ascend up i j d lt within = ascend (some_of rows i (omega (arith, within, size)))
    where
      some_of : (rows : List Placed) (i : ℕ) → 0 < length rows → Placed
      some_of [] i h = absurd (omega (arith, h))
      some_of (p ∷ ps) i h = p

      ascend : Placed → (get_or offsets i d).0 < (get_or offsets j d).0
      ascend p = omega (arith, up i j p lt (omega (arith, within, size)), ap (λ o. o.0) (offset_at i p d (omega (arith, within, size))), ap (λ o. o.0) (offset_at j p d (omega (arith, within, size))))
