-- A sum, and how many numbers were added.
use Rattle.std.specs.Prelude.{ℕ, ℤ, pos, neg_ℤ, ◌*◌, ◌≤◌, ◌≤ℤ◌}

pub record Summed : Type 0 where
  pub rows : ℕ
  pub sum : ℤ

-- the sum of at most 2 ^ 63 - 1 numbers of 64 bits
pub record IsWithin (rows : ℕ) (sum : ℤ) : Type 0 where
  pub rows_at_most : rows ≤ 9223372036854775807
  pub at_most : sum ≤ℤ pos (rows * 9223372036854775808)
  pub at_least : neg_ℤ (pos (rows * 9223372036854775808)) ≤ℤ sum
