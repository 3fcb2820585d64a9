-- How many rows an upsert table holds after its calls.
use Rattle.std.proofs.Common.{◌≤◌, ◌+◌, ℕ, List, [], ◌∷◌, length, filter, refl, arith, Ordering, Less, Equal, Greater}
use Rattle.std.specs.Ordering.{match_ordering}
use Rattle.std.proofs.lemmas.List.Filters.{length-filter_both}
use Rattle.rt_base.specs.declared.numbers.Sequence.{Sequence}
use Rattle.rt_upsert.specs.Placed.{Placed, place_cmp, put_in, is_out, stays}

-- a row put in is one more at most
pub put_few : (x : Placed) (ys : List Placed) → length (put_in x ys) ≤ length ys + 1
put_few x [] = omega arith
put_few x (y ∷ ys) = by (put_few x ys) (place_cmp x.place y.place)
  where
    by : length (put_in x ys) ≤ length ys + 1 → (o : Ordering)
        → length (match_ordering o (x ∷ (y ∷ ys)) (record { place = y.place; row = x.row } ∷ ys) (y ∷ put_in x ys)) ≤ length (y ∷ ys) + 1
    by rest Less = omega arith
    by rest Equal = omega arith
    by rest Greater = omega (arith, rest)

-- no row comes by what is taken out
pub stay_few : (sequence : Sequence) (from : ℕ) (xs : List Placed) → length (filter (stays sequence from) xs) ≤ length xs
stay_few sequence from xs = omega (arith, length-filter_both (is_out sequence from) (stays sequence from) (λ x. refl) xs)
