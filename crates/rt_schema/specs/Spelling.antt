-- Which texts spell how many milliseconds.
use Rattle.std.specs.Prelude.{◌≡◌, ◌⊎◌, ℕ, ◌+◌, ◌*◌, ◌≤◌, List, [], ◌∷◌, ◌++◌, length, true}
use Rattle.std.specs.Str.{all_ascii_digits}
use Rattle.std.specs.Str.Parse.{digits_value}

-- at least one decimal digit and at most so many, and the number that they write
pub record Writes (most : ℕ) (text : List ℕ) (number : ℕ) : Type 0 where
  pub digits : all_ascii_digits text ≡ true
  pub some : 1 ≤ length text
  pub few : length text ≤ most
  pub value : number ≡ digits_value 10 text

-- so many of a unit: 1 to 9 digits and the unit's letter; or none of it, where nothing is said
abbrev pub SaysUnit : ℕ → List ℕ → ℕ → Type 0
SaysUnit letter piece count = ((piece ≡ []) × (count ≡ 0)) ⊎ ((digits : List ℕ) × (piece ≡ digits ++ letter ∷ []) × Writes 9 digits count)

-- days `d`, hours `h`, minutes `m` and seconds `s` in this order, at least one of them
pub record IsSum (text : List ℕ) (millis : ℕ) : Type 0 where
  pub days : List ℕ
  pub hours : List ℕ
  pub minutes : List ℕ
  pub seconds : List ℕ
  pub d : ℕ
  pub h : ℕ
  pub m : ℕ
  pub s : ℕ
  pub whole : text ≡ days ++ (hours ++ (minutes ++ seconds))
  pub some : 1 ≤ length text
  pub says_days : SaysUnit 100 days d
  pub says_hours : SaysUnit 104 hours h
  pub says_minutes : SaysUnit 109 minutes m
  pub says_seconds : SaysUnit 115 seconds s
  pub sum : millis ≡ 86400000 * d + 3600000 * h + 60000 * m + 1000 * s

-- a text spells so many milliseconds: as 1 to 18 digits, or as a sum such as `1h30m`
abbrev pub Spells : List ℕ → ℕ → Type 0
Spells text millis = Writes 18 text millis ⊎ IsSum text millis
