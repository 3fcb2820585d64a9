-- How the keys of dictionaries stand to literals.
use Rattle.std.specs.Prelude.{◌≡◌, ℕ, ℤ, Bool, false, not, ◌&&◌, ◌||◌, List, [], ◌∷◌, Option, Some, None, nat_le, nat_lt}
use Rattle.std.specs.declared.cmp.Ordering.{Ordering}
use Rattle.std.specs.Ordering.{is_lt, is_gt}
use Rattle.rt_schema.specs.Value.{in_32_bits}
use Rattle.rt_model.specs.declared.query_parts.Literal.{Literal}
use Rattle.rt_model.specs.declared.query_parts.Literal.TheVariants as literal
use Rattle.rt_model.specs.declared.query_parts.Comparison.TheVariants.{Equal, NotEqual, Less, AtMost, Greater, AtLeast}
use Rattle.rt_model.specs.declared.query_parts.Comparison.{Comparison}
use Rattle.rt_model.specs.Match.{accepted}
use Rattle.rt_dict.specs.declared.edge.Edge.{Edge}
use Rattle.rt_dict.specs.Range.{starts_by, ends_after}
use Rattle.rt_seek.specs.declared.column_test.ColumnTest.{ColumnTest}
use Rattle.rt_seek.specs.declared.column_test.ColumnTest.TheVariants.{Compare, Between, OneOf, NoneOf}

-- the key that equals a literal, where there is one
abbrev pub int_of : Literal → Option ℤ
int_of (literal.Int l) = in_32_bits l
int_of (literal.Text l) = None
int_of (literal.Bool l) = None

abbrev pub long_of : Literal → Option ℤ
long_of (literal.Int l) = Some l
long_of (literal.Text l) = None
long_of (literal.Bool l) = None

abbrev pub text_of : Literal → Option (List ℕ)
text_of (literal.Int l) = None
text_of (literal.Text l) = Some l
text_of (literal.Bool l) = None

abbrev pub truth_of : Literal → Option Bool
truth_of (literal.Int l) = None
truth_of (literal.Text l) = None
truth_of (literal.Bool l) = Some l

-- a key stands to a literal as it does to the literal's key
abbrev pub StandsTo : {K : Type 0} → (K → K → Bool) → K → K → Option Ordering → Type 0
StandsTo below v key None = ⊥
StandsTo below v key (Some o) = (is_lt o ≡ below v key) × (is_gt o ≡ below key v)

module _ {K : Type 0} (against : K → Literal → Option Ordering) where
  -- whether a key compares so with a literal
  abbrev pub key_accepted : Comparison → K → Literal → Bool
  key_accepted comparison v l = accepted comparison (against v l)

  abbrev pub lies_between_by : K → Literal → Literal → Bool
  lies_between_by v low high = accepted AtLeast (against v low) && accepted AtMost (against v high)

  abbrev pub equals_one : K → List Literal → Bool
  equals_one v [] = false
  equals_one v (l ∷ ls) = accepted Equal (against v l) || equals_one v ls

  -- whether a key passes a test
  abbrev pub key_passes : ColumnTest → K → Bool
  key_passes (Compare comparison l) v = accepted comparison (against v l.now)
  key_passes (Between low high) v = accepted AtLeast (against v low.now) && accepted AtMost (against v high.now)
  key_passes (OneOf ls) v = equals_one v ls.now
  key_passes (NoneOf ls) v = not (equals_one v ls.now)

module _ {K : Type 0} (below : K → K → Bool) where
  -- neither of two keys comes before the other
  abbrev pub same_key : K → K → Bool
  same_key v key = not (below v key) && not (below key v)

  -- whether a key compares so with another
  abbrev pub compares_keys : Comparison → K → K → Bool
  compares_keys Equal v key = same_key v key
  compares_keys NotEqual v key = not (same_key v key)
  compares_keys Less v key = below v key
  compares_keys AtMost v key = not (below key v)
  compares_keys Greater v key = below key v
  compares_keys AtLeast v key = not (below v key)

  -- whether a key lies within two edges
  abbrev pub is_within : Edge K → Edge K → K → Bool
  is_within low high v = starts_by below low v && ends_after below high v

-- whether an id lies in a range
abbrev pub is_between : ℕ → ℕ → ℕ → Bool
is_between start end id = nat_le start id && nat_lt id end
