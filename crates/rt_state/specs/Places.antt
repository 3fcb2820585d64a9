-- What stands at its place of a list.
use Rattle.std.specs.Prelude.{◌≡◌, ℕ, List, slice_get, Some}

-- each item has this at its place
abbrev pub AreAt : {X : Type 0} → (ℕ → X → Type 0) → List X → Type 0
AreAt {X = X} P xs = (i : ℕ) (x : X) → slice_get xs i ≡ Some x → P i x
