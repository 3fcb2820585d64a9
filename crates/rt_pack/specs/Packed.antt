-- The packed form of ids: their bits one after another, and zeros up to a whole byte.
use Rattle.std.specs.Prelude.{ℕ, ◌+◌, ◌*◌, ◌/◌, List, length, drop}
use Rattle.rt_pack.specs.Bits.{all_bits, number_of, numbers_of}

-- how many bytes hold so many ids
abbrev pub bytes_for : ℕ → ℕ → ℕ
bytes_for width rows = (rows * width + 7) / 8

-- the bytes of the ids
abbrev pub packed : ℕ → List ℕ → List ℕ
packed width ids = numbers_of 8 (bytes_for width (length ids)) (all_bits width ids)

-- the id of a row in bytes
abbrev pub id_at : ℕ → List ℕ → ℕ → ℕ
id_at width bytes row = number_of width (drop (row * width) (all_bits 8 bytes))

-- the ids of the first `rows` rows in bytes
abbrev pub unpacked : ℕ → ℕ → List ℕ → List ℕ
unpacked width rows bytes = numbers_of width rows (all_bits 8 bytes)

-- the bits behind the ids of so many rows
abbrev pub spare_bits : ℕ → ℕ → List ℕ → List ℕ
spare_bits width rows bytes = drop (rows * width) (all_bits 8 bytes)
