-- The numbers of the rows that have a value.
use Rattle.std.specs.Prelude.{◌≡◌, ◌==◌, ℕ, ◌+◌, ◌-◌, ◌<◌, Bool, List, [], ◌∷◌, ◌++◌, length, take, nat_lt, if◌then◌else◌, slice_index_or, slice_set}

-- the numbers, from a first one on, of the items that pass a test
abbrev pub numbers_from : {X : Type 0} → (X → Bool) → ℕ → List X → List ℕ
numbers_from test number [] = []
numbers_from test number (x ∷ xs) = if test x then number ∷ numbers_from test (number + 1) xs else numbers_from test (number + 1) xs

-- the places of the items that pass a test, ascending
abbrev pub numbers_where : {X : Type 0} → (X → Bool) → List X → List ℕ
numbers_where test xs = numbers_from test 0 xs

-- for each id below a count, the numbers of the rows that have it
pub record AreRowsById (lists : List (List ℕ)) (ids : List ℕ) (count : ℕ) : Type 0 where
  pub size : length lists ≡ count
  pub rows : (id : ℕ) → id < count → slice_index_or lists id [] ≡ numbers_where (λ other. other == id) ids

-- the lists after one more row, whose id is known or the next
abbrev pub with_row : List (List ℕ) → ℕ → ℕ → List (List ℕ)
with_row lists id row = if nat_lt id (length lists) then slice_set lists id (slice_index_or lists id [] ++ row ∷ []) else lists ++ (row ∷ []) ∷ []

-- the lists without the last row, which had this id, when so many ids are left
abbrev pub without_row : List (List ℕ) → ℕ → ℕ → List (List ℕ)
without_row lists id count =
    if nat_lt id count
    then slice_set lists id (take (length (slice_index_or lists id []) - 1) (slice_index_or lists id []))
    else take (length lists - 1) lists
