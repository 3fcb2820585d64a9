-- The values of a dictionary.
use Rattle.std.specs.Prelude.{◌≡◌, ℕ, ◌-◌, Bool, true, List, length, map, AllPairs, Contains, IsTrue, Option, Some, None, slice_get}

-- Each value comes before each later one.
abbrev pub IsAscending : {K : Type 0} → (K → K → Bool) → List K → Type 0
IsAscending below values = AllPairs (λ x y. IsTrue (below x y)) values

-- These are the distinct values of a list, ascending.
pub record AreDistinctValues {K : Type 0} (below : K → K → Bool) (all distinct : List K) : Type 0 where
  pub ascending : IsAscending below distinct
  pub each_stands : (value : K) → Contains all value → Contains distinct value
  pub none_else : (value : K) → Contains distinct value → Contains all value

abbrev pub is_past : {K : Type 0} → (K → K → Bool) → Option K → K → Bool
is_past below None value = true
is_past below (Some last) value = below last value

-- Whether a value comes after the last of a list, if there is one.
abbrev pub is_past_last : {K : Type 0} → (K → K → Bool) → List K → K → Bool
is_past_last below values value = is_past below (slice_get values (length values - 1)) value

-- The ids of keys in a dictionary: each stands where the key does.
abbrev pub AreIdsOf : {K : Type 0} → List K → List K → List ℕ → Type 0
AreIdsOf dictionary keys ids = map (slice_get dictionary) ids ≡ map Some keys
