-- Indices, each at its id.
use Rattle.std.specs.Prelude.{◌≡◌, ◌⊎◌, ℕ, List, Option, Some, slice_get}

abbrev pub IsAt : List (Option ℕ) → ℕ → ℕ → Type 0
IsAt indices id index = slice_get indices id ≡ Some (Some index)

-- no index stands at an id
abbrev pub IsFree : List (Option ℕ) → ℕ → Type 0
IsFree indices id = (index : ℕ) → IsAt indices id index → ⊥

-- each index stood there before
abbrev pub HasNoMore : List (Option ℕ) → List (Option ℕ) → Type 0
HasNoMore old new = (i at : ℕ) → IsAt new i at → IsAt old i at

-- an index is noted at an id: it stands there, each other id has the index that it had, and no other index came
pub record Notes (old : List (Option ℕ)) (id index : ℕ) (new : List (Option ℕ)) : Type 0 where
  pub here : IsAt new id index
  pub kept : (i at : ℕ) → IsAt old i at → (i ≡ id → ⊥) → IsAt new i at
  pub most : (i at : ℕ) → IsAt new i at → IsAt old i at ⊎ ((i ≡ id) × (at ≡ index))
