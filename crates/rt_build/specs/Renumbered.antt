-- Ids of values in the order of their first arrival, renumbered by a sorted dictionary.
use Rattle.std.specs.Prelude.{ℕ, ◌+◌, Bool, List, map, fold, max, slice_index}
use Rattle.rt_dict.specs.Values.{AreDistinctValues, AreIdsOf}

-- the id that a next value would get: ids in the order of first arrival leave none out
abbrev pub next_id : List ℕ → ℕ
next_id ids = fold (λ next id. max next (id + 1)) 0 ids

-- each id as a table has it
abbrev pub renumbered : List ℕ → List ℕ → List ℕ
renumbered table ids = map (slice_index table) ids

-- the sorted distinct values of a list, and the id of each of its values among them
pub record AreSorted {K : Type 0} (below : K → K → Bool) (values dictionary : List K) (ids : List ℕ) : Type 0 where
  pub distinct : AreDistinctValues below values dictionary
  pub identified : AreIdsOf dictionary values ids
