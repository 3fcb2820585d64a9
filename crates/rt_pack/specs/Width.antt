-- How many bits the ids below a count take.
use Rattle.std.specs.Prelude.{ℕ, zero, suc, ◌^◌, nat_le, if◌then◌else◌}

-- the least width from `width` on whose ids reach the count, or that after `more` others
abbrev pub least_from : ℕ → ℕ → ℕ → ℕ
least_from zero width count = width
least_from (suc more) width count = if nat_le count (2 ^ width) then width else least_from more (suc width) count

-- the least width of at most 32 bits with as many ids as the count
unfoldable pub width_of : ℕ → ℕ
width_of count = least_from 32 0 count
