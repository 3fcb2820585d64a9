-- The numbers that digits stand for.
use Rattle.std.specs.Prelude.{ℕ, ◌^◌, ℤ, pos, neg_ℤ, Bool, true, false, Option, Some, None, nat_lt, nat_le, if◌then◌else◌}

-- a literal's number, behind a minus or not, where it has at most 64 signed bits
abbrev pub whole : Bool → Option ℕ → Option ℤ
whole negative None = None
whole false (Some n) = if nat_lt n (2 ^ 63) then Some (pos n) else None
whole true (Some n) = if nat_le n (2 ^ 63) then Some (neg_ℤ (pos n)) else None

abbrev pub or_zero : Option ℤ → ℤ
or_zero (Some z) = z
or_zero None = pos 0

-- the number behind LIMIT, where it is at most 1,000,000
abbrev pub rows : Option ℕ → Option ℕ
rows None = None
rows (Some n) = if nat_le n 1000000 then Some n else None

abbrev pub or_none : Option ℕ → ℕ
or_none (Some n) = n
or_none None = 0
