-- The words of a line, and the numbers that they write.
use Rattle.std.specs.Prelude.{ℕ, ◌+◌, Bool, false, List, [], ◌∷◌, length, take, drop, Option, None, Some, nat_eq, ◌==◌, nat_le, nat_lt, ◌&&◌, if◌then◌else◌}
use Rattle.std.specs.Char.{is_ascii_digit}
use Rattle.std.specs.List.{list_all, starts_with}
use Rattle.std.specs.Str.Parse.{digits_value}

abbrev pub then_some : {A B : Type 0} → Option A → (A → Option B) → Option B
then_some None f = None
then_some (Some x) f = f x

-- a text without the prefix that it begins with
abbrev pub after_prefix : List ℕ → List ℕ → Option (List ℕ)
after_prefix prefix text = if starts_with nat_eq text prefix then Some (drop (length prefix) text) else None

-- how many bytes stand before the first one of this value
abbrev pub place_in : ℕ → List ℕ → ℕ
place_in byte [] = 0
place_in byte (b ∷ bs) = if b == byte then 0 else place_in byte bs + 1

-- what stands before the first of these bytes, and what behind it
abbrev pub parted_at : ℕ → List ℕ → Option (List ℕ × List ℕ)
parted_at byte text =
    if nat_lt (place_in byte text) (length text) then Some (take (place_in byte text) text, drop (place_in byte text + 1) text) else None

-- decimal digits without leading zeros
abbrev pub is_numeral : List ℕ → Bool
is_numeral [] = false
is_numeral (b ∷ []) = is_ascii_digit b
is_numeral (b ∷ c ∷ bs) = if b == 48 then false else list_all is_ascii_digit (b ∷ c ∷ bs)

-- the number that a word writes, at most this one
abbrev pub number_up_to : ℕ → List ℕ → Option ℕ
number_up_to most word = if is_numeral word && nat_le (digits_value 10 word) most then Some (digits_value 10 word) else None

-- a number of a script fits 64 bits
abbrev pub number_of : List ℕ → Option ℕ
number_of word = number_up_to 18446744073709551615 word

-- the number of `KEY=N`
abbrev pub field_of : List ℕ → List ℕ → Option ℕ
field_of key word = then_some (after_prefix key word) number_of

-- the number that a program's word writes: at most 20 decimal digits as they stand, leading zeros included
abbrev pub word_number : List ℕ → Option ℕ
word_number word =
    if (nat_lt 0 (length word) && nat_le (length word) 20) && list_all is_ascii_digit word
    then (if nat_le (digits_value 10 word) 18446744073709551615 then Some (digits_value 10 word) else None)
    else None
