-- The parts of a text, joined again.
use Rattle.std.specs.Prelude.{◌≡◌, ◌⊎◌, ℕ, List, [], ◌∷◌, ◌++◌}
use Rattle.std.specs.List.{join_with_byte}

-- no byte of a part is a newline
abbrev pub HasNoNewline : List ℕ → Type 0
HasNoNewline [] = Unit {0}
HasNoNewline (b ∷ bs) = (b ≡ 10 → ⊥) × HasNoNewline bs

abbrev pub HaveNoNewline : List (List ℕ) → Type 0
HaveNoNewline [] = Unit {0}
HaveNoNewline (part ∷ parts) = HasNoNewline part × HaveNoNewline parts

-- the parts have no newline, and joined by newlines they are the text, but for a newline at its end
pub record ArePartsOf (text : List ℕ) (parts : List (List ℕ)) : Type 0 where
  pub plain : HaveNoNewline parts
  pub joined : (text ≡ join_with_byte 10 parts) ⊎ (text ≡ join_with_byte 10 parts ++ 10 ∷ [])
