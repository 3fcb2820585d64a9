-- The groups of ids that were met.
use Rattle.std.specs.Prelude.{ℕ, List, Option}
use Rattle.std.specs.List.{Contains}

-- an index for the ids of several columns, and for the id of one
pub record Met : Type 0 where
  pub by_ids : List (List ℕ × ℕ)
  pub by_id : List (Option ℕ)

-- no index is noted for ids
abbrev pub IsAbsent : List (List ℕ × ℕ) → List ℕ → Type 0
IsAbsent met ids = (index : ℕ) → Contains met (ids, index) → ⊥
