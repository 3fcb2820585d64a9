-- A list that a loop changes place by place.
use Rattle.std.proofs.Common.{◌≡◌, ℕ, ◌<◌, ◌≤◌, List, get_or, map, arith, ◌∙◌}
use Rattle.std.proofs.lemmas.List.FromFn.{fill_by_all, length-map-range_with_len, get_or-map-range_with_len}
use Rattle.std.specs.List.{range_with_len}

-- the first i places have their new numbers, and the others their old ones
pub record IsDone (f : ℕ → ℕ) (xs ys : List ℕ) (i : ℕ) : Type 0 where
  pub done : (k : ℕ) → k < i → get_or ys k 0 ≡ f k
  pub left : (k : ℕ) → i ≤ k → get_or ys k 0 ≡ get_or xs k 0

-- two lists by one function each
pub map_same : {X : Type 0} (f g : ℕ → X) (n : ℕ) → X → ((k : ℕ) → k < n → f k ≡ g k) → map f (range_with_len 0 n) ≡ map g (range_with_len 0 n)
map_same f g n d h = fill_by_all g (map f (range_with_len 0 n)) n d (length-map-range_with_len f 0 n)
    (λ k l. get_or-map-range_with_len f 0 n k k d l (omega arith) ∙ h k l)
