-- How sums and counts grow, as long as there are fewer than 2 ^ 63 rows.
use Rattle.std.specs.Prelude.{ℕ, ℤ, ◌+◌, ◌+ℤ◌, nat_lt, if◌then◌else◌}
use Rattle.rt_agg.specs.Summed.{Summed}

-- the numbers of both
abbrev pub joined : Summed → Summed → Summed
joined t u =
    if nat_lt (t.rows + u.rows) 9223372036854775808 then record { rows = t.rows + u.rows; sum = t.sum +ℤ u.sum } else t

abbrev pub with_number : ℤ → Summed → Summed
with_number m t = joined t (record { rows = 1; sum = m })

-- the rows of both
abbrev pub counted : ℕ → ℕ → ℕ
counted m n = if nat_lt (m + n) 9223372036854775808 then m + n else m

abbrev pub with_one : ℕ → ℕ
with_one n = counted n 1
