-- A set of rows, as a mark for each row.
use Rattle.std.specs.Prelude.{◌≡◌, ℕ, ◌<◌, ◌≤◌, Bool, true, false, ◌&&◌, ◌||◌, List, [], ◌∷◌, slice_index_or}

-- whether a row is in the set
abbrev pub has_row : List Bool → ℕ → Bool
has_row set row = slice_index_or set row false

-- the rows in both sets
abbrev pub both : List Bool → List Bool → List Bool
both [] ys = []
both (x ∷ xs) [] = []
both (x ∷ xs) (y ∷ ys) = (x && y) ∷ both xs ys

-- the rows in either set
abbrev pub either : List Bool → List Bool → List Bool
either [] ys = []
either (x ∷ xs) [] = []
either (x ∷ xs) (y ∷ ys) = (x || y) ∷ either xs ys

-- no row from `row` on is in the set
abbrev pub HasNoneFrom : List Bool → ℕ → Type 0
HasNoneFrom set row = (r : ℕ) → row ≤ r → has_row set r ≡ false

-- the first row of the set from `row` on
pub record IsNextFrom (set : List Bool) (row found : ℕ) : Type 0 where
  pub reached : row ≤ found
  pub within : has_row set found ≡ true
  pub first : (r : ℕ) → row ≤ r → r < found → has_row set r ≡ false
