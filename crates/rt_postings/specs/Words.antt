-- Rows as the bits of words, 64 a word, the first at the lowest bit.
use Rattle.std.specs.Prelude.{◌≡◌, ℕ, ◌/◌, ◌%◌, ◌==◌, ◌<◌, ◌≤◌, Bool, true, false, List, map, slice_index}
use Rattle.std.specs.Int.{bit_at}
use Rattle.std.specs.List.{range_with_len}

-- whether the bit of a row is set
abbrev pub marked : List ℕ → ℕ → Bool
marked words row = bit_at (slice_index words (row / 64)) (row % 64) == 1

-- the marks of the first rows
abbrev pub marks_of : ℕ → List ℕ → List Bool
marks_of rows words = map (marked words) (range_with_len 0 rows)

-- no bit from `row` on is set
abbrev pub NoneMarkedFrom : List ℕ → ℕ → Type 0
NoneMarkedFrom words row = (r : ℕ) → row ≤ r → marked words r ≡ false

-- the first bit from `row` on
pub record IsMarkedNext (words : List ℕ) (row found : ℕ) : Type 0 where
  pub reached : row ≤ found
  pub set : marked words found ≡ true
  pub first : (r : ℕ) → row ≤ r → r < found → marked words r ≡ false
