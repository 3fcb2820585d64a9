-- The parts of a name's text.
use Rattle.std.specs.Prelude.{◌≢◌, ℕ, Bool, ◌&&◌, ◌||◌, ◌==◌, nat_lt, List, ◌++◌, length, slice_index, codes}
use Rattle.std.specs.List.{AllByRecursion}

-- No byte is `_`.
abbrev pub NoUnderscore : List ℕ → Type 0
NoUnderscore bytes = AllByRecursion (λ b. b ≢ 95) bytes

-- Four pieces with `__` between them.
abbrev pub joined : List ℕ → List ℕ → List ℕ → List ℕ → List ℕ
joined table partition sequence minute = table ++ codes "__" ++ partition ++ codes "__" ++ sequence ++ codes "__" ++ minute

-- A numeral begins with `+`, or with a zero that another byte follows.
abbrev pub is_led : List ℕ → Bool
is_led bytes = (slice_index bytes 0 == 43) || ((slice_index bytes 0 == 48) && nat_lt 1 (length bytes))
