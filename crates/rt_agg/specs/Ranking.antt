-- The result that a group gives.
use Rattle.std.specs.Prelude.{◌≡◌, ℕ, ◌+◌, ◌-◌, ◌≤◌, min, true, false, List, [], ◌∷◌, map, length, take, drop, Some, slice_get, slice_index_or}
use Rattle.std.specs.List.{AllByRecursion}
use Rattle.std.specs.Ordering.{is_gt}
use Rattle.std.specs.declared.cmp.Ordering.{Ordering}
use Rattle.std.specs.declared.cmp.Ordering.TheVariants.{Less}
use Rattle.rt_schema.specs.declared.value.Value.{Value}
use Rattle.rt_model.specs.declared.query_parts.OrderKey.{OrderKey}
use Rattle.rt_model.specs.Aggregate.{Result, result_cmp, placed}
use Rattle.rt_agg.specs.Accumulator.{Accumulator}
use Rattle.rt_agg.specs.Accumulators.{cell_in}

-- a group's key, with what is known of so many items and then of the keys of ORDER BY
abbrev pub result_at : ℕ → List Value × List Accumulator → Result
result_at width e =
    record {
      key = e.0;
      order = map cell_in (drop width e.1);
      row = record { cells = map cell_in (take width e.1) };
    }

-- what the group at a place gives
abbrev pub ranked_at : ℕ → List (List Value × List Accumulator) → ℕ → Result
ranked_at width es i = result_at width (slice_index_or es i ([], []))

-- the same, where a place past the last group is that of the last
abbrev pub ranked_within : ℕ → List (List Value × List Accumulator) → ℕ → Result
ranked_within width es i = ranked_at width es (min i (length es - 1))

-- each item of a list comes before all after it
abbrev pub Ascends : {X : Type 0} → (X → X → Ordering) → List X → Type 0
Ascends R [] = Unit {0}
Ascends R (x ∷ xs) = AllByRecursion (λ y. R x y ≡ Less) xs × Ascends R xs

-- where a result goes among those of some ascending places: it comes after the one before it, and not after the one there
pub record IsPlaced (order : List OrderKey) (ranked : ℕ → Result) (i : ℕ) (places : List ℕ) (at : ℕ) : Type 0 where
  pub within : at ≤ length places
  pub before : (k p : ℕ) → at ≡ k + 1 → slice_get places k ≡ Some p → is_gt (result_cmp order (ranked i) (ranked p)) ≡ true
  pub behind : (p : ℕ) → slice_get places at ≡ Some p → is_gt (result_cmp order (ranked i) (ranked p)) ≡ false

-- of the places of the first of some ascending results came those of the first of these and one more
abbrev pub PlacesOne : List OrderKey → (ℕ → Result) → ℕ → ℕ → List ℕ → List ℕ → Type 0
PlacesOne order ranked limit i old new =
    (all : List Result)
    → Ascends (result_cmp order) all
    → map ranked old ≡ take limit all
    → map ranked new ≡ take limit (placed order (ranked i) all)
