-- How groups take what other groups hold.
use Rattle.std.specs.Prelude.{◌≡◌, ℕ, Bool, true, false, List, [], ◌∷◌, Option, Some, None, slice_get}
use Rattle.rt_schema.specs.declared.value.Value.{Value}
use Rattle.rt_agg.specs.Accumulator.{Accumulator}
use Rattle.rt_agg.specs.Accumulators.{all_merged}

-- what is known at a key once its group is started, where it wasn't there and is asked for
abbrev pub started_at : List Accumulator → Option (List Accumulator) → Bool → Option (List Accumulator)
started_at start (Some a) asked = Some a
started_at start None true = Some start
started_at start None false = None

-- what is known at a key, with what others know there
abbrev pub merged_at : Option (List Accumulator) → Option (List Accumulator) → Option (List Accumulator)
merged_at None b = None
merged_at (Some a) None = Some a
merged_at (Some a) (Some b) = Some (all_merged a b)

-- these keys stand at these places, in order
abbrev pub AreAt : List (List Value) → List ℕ → List (List Value) → Type 0
AreAt keys [] [] = Unit {0}
AreAt keys [] (k ∷ ks) = ⊥
AreAt keys (p ∷ ps) [] = ⊥
AreAt keys (p ∷ ps) (k ∷ ks) = (slice_get keys p ≡ Some k) × AreAt keys ps ks
