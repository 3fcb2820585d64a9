-- One version more among those that were found.
use Rattle.std.proofs.Common.{◌≡◌, ℕ, ◌+◌, ◌<◌, List, [], ◌∷◌, ◌++◌, true, false, nat_lt, length, take, sym, ◌∙◌, arith}
use Rattle.std.specs.Prelude.{slice_set}
use Rattle.std.proofs.lemmas.List.{take_more_set, length-take-le, take_all, length-set}
use Rattle.std.proofs.lemmas.Bool.{lt-ltb, le-ltb}

-- the place of the next version has it behind those before it
pub found_more : (versions : List ℕ) (count version : ℕ) → count < 10 → length versions ≡ 10
    → take (count + 1) (slice_set versions count version) ≡ take count versions ++ version ∷ []
found_more versions count version few size = take_more_set versions count version (omega (arith, few, size))

pub found_few : (versions : List ℕ) (count : ℕ) → count + 1 < 10 → length versions ≡ 10
    → nat_lt (length (take count versions)) 9 ≡ true
found_few versions count few size =
    lt-ltb (length (take count versions)) 9
    (omega (arith, length-take-le count versions (omega (arith, few, size)), few))

-- the tenth one fills all places
pub found_all : (versions : List ℕ) (count version : ℕ) → count + 1 ≡ 10 → length versions ≡ 10
    → slice_set versions count version ≡ take count versions ++ version ∷ []
found_all versions count version last size =
    sym (take_all (count + 1) (slice_set versions count version) (omega (arith, length-set versions count version, last, size)))
    ∙ take_more_set versions count version (omega (arith, last, size))

pub found_ten : (versions : List ℕ) (count : ℕ) → count + 1 ≡ 10 → length versions ≡ 10
    → nat_lt (length (take count versions)) 9 ≡ false
found_ten versions count last size =
    le-ltb (length (take count versions)) 9
    (omega (arith, length-take-le count versions (omega (arith, last, size)), last))
