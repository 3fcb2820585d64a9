-- Settings that are numbers and times.
use Rattle.std.specs.Prelude.{ℕ, ◌+◌, ◌-◌, ◌*◌, ◌==◌, ◌&&◌, List, [], ◌∷◌, length, take, drop, slice_index, nat_le, Option, Some, None, option_map, option_and_then, if◌then◌else◌}
use Rattle.std.specs.Char.{is_ascii_digit}
use Rattle.std.specs.List.{prefix_len}
use Rattle.std.specs.Str.{all_ascii_digits}
use Rattle.serde_json.specs.Data.{Data, null, boolean, number, string, array, object}
use Rattle.serde_json.specs.Find.{as_u64}
use Rattle.rt_schema.specs.declared.setting.Part.{Part as Taken}

-- the number that decimal digits write, behind one that was written
abbrev pub read_digits : ℕ → List ℕ → ℕ
read_digits n [] = n
read_digits n (digit ∷ digits) = read_digits (10 * n + (digit - 48)) digits

-- the number of a text of digits, of which there are at least one and at most so many
abbrev pub digits_of : ℕ → List ℕ → Option ℕ
digits_of most text = if all_ascii_digits text && nat_le 1 (length text) && nat_le (length text) most then Some (read_digits 0 text) else None

-- a whole number, or a text of 1 to 18 digits
abbrev pub number_of : Data → Option ℕ
number_of null = None
number_of (boolean b) = None
number_of (number n) = as_u64 n
number_of (string s) = digits_of 18 s
number_of (array ds) = None
number_of (object ms) = None

-- how many of a unit a text begins with, and what follows
pub record Part : Type 0 where
  pub count : ℕ
  pub rest : List ℕ

abbrev pub seen_part : Taken → Part
seen_part part = record { count = part.count; rest = part.rest.now }

-- how many digits a text begins with
abbrev pub digit_count : List ℕ → ℕ
digit_count text = prefix_len is_ascii_digit text

-- a part is 1 to 9 digits and the unit's letter; a text that begins with no part of the unit has none of it
abbrev pub part_of : ℕ → List ℕ → Option Part
part_of letter text =
    if slice_index text (digit_count text) == letter then option_map (λ count. record { count = count; rest = drop (digit_count text + 1) text }) (digits_of 9 (take (digit_count text) text))
    else Some (record { count = 0; rest = text })

abbrev pub if_ended : List ℕ → ℕ → Option ℕ
if_ended [] millis = Some millis
if_ended (b ∷ bs) millis = None

-- days, hours, minutes and seconds in this order, each at most once, in milliseconds
abbrev pub parts_of : List ℕ → Option ℕ
parts_of text =
    option_and_then (λ days.
    option_and_then (λ hours.
    option_and_then (λ minutes.
    option_and_then (λ seconds.
    if_ended seconds.rest (86400000 * days.count + 3600000 * hours.count + 60000 * minutes.count + 1000 * seconds.count))
    (part_of 115 minutes.rest))
    (part_of 109 hours.rest))
    (part_of 104 days.rest))
    (part_of 100 text)

-- the milliseconds of a text of 1 to 18 digits, or of one or more parts
abbrev pub time_from : Option ℕ → List ℕ → Option ℕ
time_from (Some millis) text = Some millis
time_from None [] = None
time_from None (b ∷ bs) = parts_of (b ∷ bs)

abbrev pub time_of_text : List ℕ → Option ℕ
time_of_text text = time_from (digits_of 18 text) text

-- a time in milliseconds: a whole number, or a text
abbrev pub time_of : Data → Option ℕ
time_of null = None
time_of (boolean b) = None
time_of (number n) = as_u64 n
time_of (string s) = time_of_text s
time_of (array ds) = None
time_of (object ms) = None
