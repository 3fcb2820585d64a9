-- Values in the order of their first arrival, and the ids by which the rows refer to them.
use Rattle.std.specs.Prelude.{◌≡◌, ◌==◌, ℕ, ◌-◌, ◌≤◌, Bool, take, List, [], ◌∷◌, ◌++◌, length, map, fold, filter_map, slice_get, if◌then◌else◌}
use Rattle.std.specs.List.{list_any, position_or_len}

module _ {K : Type 0} (eq : K → K → Bool) where
  -- distinct values after one more: a value that isn't among them goes last
  abbrev pub arrive : List K → K → List K
  arrive distinct value = if list_any (eq value) distinct then distinct else distinct ++ value ∷ []

  -- the distinct values of a list, in the order of their first arrival
  abbrev pub arrivals_of : List K → List K
  arrivals_of values = fold arrive [] values

  -- the id of a value is its place among the distinct ones
  abbrev pub id_among : List K → K → ℕ
  id_among distinct value = position_or_len (eq value) distinct

  -- the id of each value
  abbrev pub ids_of : List K → List ℕ
  ids_of values = map (id_among (arrivals_of values)) values

-- the values that ids stand for
abbrev pub values_by : {K : Type 0} → List K → List ℕ → List K
values_by distinct ids = filter_map (slice_get distinct) ids

-- distinct values in the order of their first arrival, and the id of each row's value
pub record AreArrivals {K : Type 0} (eq : K → K → Bool) (distinct : List K) (ids : List ℕ) : Type 0 where
  pub arrived : distinct ≡ arrivals_of eq (values_by distinct ids)
  pub identified : ids ≡ ids_of eq (values_by distinct ids)
  pub few : length ids ≤ 1000000

-- the distinct values without the last, unless a row has its id
abbrev pub unless_used : {K : Type 0} → List K → ℕ → List ℕ → List K
unless_used distinct id ids = if list_any (λ other. other == id) ids then distinct else take (length distinct - 1) distinct
