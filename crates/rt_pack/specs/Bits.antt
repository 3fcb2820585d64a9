-- Numbers as bits, the most significant bit first. A bit is 0 or 1.
use Rattle.std.specs.Prelude.{ℕ, zero, suc, ◌+◌, ◌*◌, ◌^◌, List, [], ◌∷◌, ◌++◌, drop}
use Rattle.std.specs.Int.{bit_at}

-- the lowest `width` bits of a number
abbrev pub bits_of : ℕ → ℕ → List ℕ
bits_of zero n = []
bits_of (suc width) n = bit_at n width ∷ bits_of width n

-- the bits of numbers, `width` bits each, one number after another
abbrev pub all_bits : ℕ → List ℕ → List ℕ
all_bits width [] = []
all_bits width (n ∷ ns) = bits_of width n ++ all_bits width ns

-- the number that the first `width` bits are; zeros follow the last bit
abbrev pub number_of : ℕ → List ℕ → ℕ
number_of zero bits = 0
number_of (suc width) [] = 0
number_of (suc width) (bit ∷ bits) = bit * 2 ^ width + number_of width bits

-- the first `count` numbers of `width` bits each; zeros follow the last bit
abbrev pub numbers_of : ℕ → ℕ → List ℕ → List ℕ
numbers_of width zero bits = []
numbers_of width (suc count) bits = number_of width bits ∷ numbers_of width count (drop width bits)
