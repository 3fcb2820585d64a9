use Rattle.std.specs.Prelude.{
  ◌≡◌,
  ℕ,
  ◌+◌,
  ◌<◌,
  ◌≤◌,
  List,
  [],
  ◌++◌,
  length,
  take,
  Option,
  Some,
  None,
  Result,
  Ok,
  Err,
  nat_lt,
  if◌then◌else◌,
}
use Rattle.std.specs.Option.{option_map}
use Rattle.rt_base.specs.declared.failed.Failed.{Failed}

-- what a source means: what is left to read, where that is told, and how many faults were met
pub record SourceMeaning : Type 0 where
  pub left : Option (List ℕ)
  pub faults : ℕ

-- what was left before a piece was read
abbrev pub put_back : List ℕ → Option (List ℕ) → Option (List ℕ)
put_back piece left = option_map (λ rest. piece ++ rest) left

-- nothing is left, where that is told
abbrev pub IsEnd : Option (List ℕ) → Type 0
IsEnd None = Unit {0}
IsEnd (Some rest) = rest ≡ []

-- the count rose; one that stands at the last number of 64 bits counts as risen
abbrev pub Rises : ℕ → ℕ → Type 0
Rises before now = (before ≤ now) × (now ≤ before → 18446744073709551615 ≤ before)

-- one fault more: the count stops at the last number of 64 bits
abbrev pub one_more : ℕ → ℕ
one_more faults = if nat_lt faults 18446744073709551615 then faults + 1 else faults

-- some bytes were read to the front of a piece: none of a piece that isn't empty only at the end
pub record Came (old new : SourceMeaning) (piece : List ℕ) (count : ℕ) : Type 0 where
  pub fits : count ≤ length piece
  pub left : old.left ≡ put_back (take count piece) new.left
  pub ended : count ≡ 0 → 0 < length piece → IsEnd new.left
  pub counts : old.faults ≤ new.faults

-- the outside failed: nothing was read, and the count rose
pub record FailsToRead (old new : SourceMeaning) : Type 0 where
  pub left : new.left ≡ old.left
  pub counts : Rises old.faults new.faults

-- what a read does
abbrev pub Reads : SourceMeaning → SourceMeaning → List ℕ → Result ℕ Failed → Type 0
Reads old new piece (Ok count) = Came old new piece count
Reads old new piece (Err _) = FailsToRead old new
