-- The order of an ideal state's entries.
use Rattle.std.specs.Prelude.{◌≡◌, ℕ, List, [], ◌∷◌, Some, IsTrue, slice_get}
use Rattle.rt_base.specs.declared.numbers.Instance.{Instance}
use Rattle.rt_model.specs.declared.ideal_state.IdealEntry.{IdealEntry}
use Rattle.rt_model.specs.Ideal.{is_before}

-- an entry comes before each of these
abbrev pub IsBeforeAll : IdealEntry → List IdealEntry → Type 0
IsBeforeAll a [] = Unit {0}
IsBeforeAll a (e ∷ es) = IsTrue (is_before a e) × IsBeforeAll a es

-- each entry comes before all later ones: by partition, then sequence, then instance
abbrev pub IsAscending : List IdealEntry → Type 0
IsAscending [] = Unit {0}
IsAscending (e ∷ es) = IsBeforeAll e es × IsAscending es

-- no instance is named twice in a segment: two entries of one instance and one segment stand at one place
abbrev pub NamesOnce : List IdealEntry → Type 0
NamesOnce es =
    (i j : ℕ) (a b : IdealEntry)
    → slice_get es i ≡ Some a → slice_get es j ≡ Some b
    → a.partition ≡ b.partition → a.sequence ≡ b.sequence → a.instance ≡ b.instance
    → i ≡ j

-- an instance is none of these
abbrev pub IsNoneOf : Instance → List Instance → Type 0
IsNoneOf i [] = Unit {0}
IsNoneOf i (j ∷ js) = (i ≡ j → ⊥) × IsNoneOf i js

-- no instance comes twice
abbrev pub AreDistinct : List Instance → Type 0
AreDistinct [] = Unit {0}
AreDistinct (i ∷ is) = IsNoneOf i is × AreDistinct is
