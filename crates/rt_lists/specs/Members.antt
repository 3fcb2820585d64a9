-- What a list has, and how lists grow.
use Rattle.std.specs.Prelude.{◌≡◌, List, [], ◌∷◌, ◌++◌, ◌⊎◌}

-- a list has this item
abbrev pub Has : {X : Type 0} → List X → X → Type 0
Has [] x = ⊥
Has (y ∷ ys) x = (y ≡ x) ⊎ Has ys x

-- the later list begins with the earlier one
abbrev pub IsFront : {X : Type 0} → List X → List X → Type 0
IsFront {X = X} old new = (more : List X) × (new ≡ old ++ more)
