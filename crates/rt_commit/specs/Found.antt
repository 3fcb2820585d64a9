-- The versions that the sets of a job found in place of those that it had read.
use Rattle.std.specs.Prelude.{◌≡◌, ℕ, true, false, nat_lt, List, [], ◌∷◌, ◌++◌, length, Result, Ok, Err}

-- one version more: there are fewer than ten, or it is the tenth
abbrev pub Adds : List ℕ → ℕ → Result (List ℕ) (List ℕ) → Type 0
Adds found version (Ok some) = (some ≡ found ++ version ∷ []) × (nat_lt (length found) 9 ≡ true)
Adds found version (Err ten) = (ten ≡ found ++ version ∷ []) × (nat_lt (length found) 9 ≡ false)
