-- Plain messages: the members of the columns one behind the other, with no space and no escape. No public clause speaks of it.
use Rattle.std.specs.Prelude.{◌≡◌, ◌&&◌, ◌==◌, ℕ, List, [], ◌∷◌, ◌++◌, map, nat_le, Bool, true, not, cond, Some}
use Rattle.std.specs.Str.{IsUtf8}
use Rattle.json.specs.Print.{print, token_text, IsPrintable}
use Rattle.json.specs.Token.{Token}
use Rattle.serde_json.specs.Data.{Data}
use Rattle.rt_schema.specs.Flat.{scalar_of, cells_from}
use Rattle.rt_schema.specs.Schema.{names_of}
use Rattle.rt_schema.specs.Value.{cell_of}
use Rattle.rt_schema.specs.declared.column.Column.{Column}
use Rattle.rt_schema.specs.declared.value.Value.{Value}

-- a comma stands before each member but the first
abbrev pub comma_if : Bool → List ℕ
comma_if later = cond later (44 ∷ []) []

-- a byte that stands for itself in a text in quotes
abbrev pub is_plain : ℕ → Bool
is_plain byte = not (byte == 34) && not (byte == 92) && nat_le 32 byte

abbrev pub are_plain : List ℕ → Bool
are_plain [] = true
are_plain (byte ∷ bytes) = is_plain byte && are_plain bytes

-- a token at the front of a text
abbrev pub IsTokenAt : List ℕ → Token → List ℕ → Type 0
IsTokenAt text t rest = (text ≡ token_text t ++ rest) × IsPrintable t × IsUtf8 (token_text t)

-- a value of one token there
abbrev pub IsScalarAt : List ℕ → Data → List ℕ → Type 0
IsScalarAt text d rest = (t : Token) × IsTokenAt text t rest × (scalar_of t ≡ Some d)

-- what a column gets from one there
abbrev pub IsCellAt : Column → List ℕ → Value → List ℕ → Type 0
IsCellAt column text value rest = (d : Data) × IsScalarAt text d rest × (cell_of column (Some d) ≡ Some value)

-- a member: its name, the token of its value and the value
abbrev pub Piece : Type 0
Piece = List ℕ × (Token × Data)

abbrev pub ArePieces : List Piece → Type 0
ArePieces [] = Unit {0}
ArePieces (p ∷ ps) = ((scalar_of p.1.0 ≡ Some p.1.1) × IsPrintable p.1.0) × ArePieces ps

abbrev pub tokens_of : List Piece → List Token
tokens_of [] = []
tokens_of (p ∷ ps) = Token.key p.0 ∷ p.1.0 ∷ tokens_of ps

-- the values of the columns, from the members of a text behind its first brace
abbrev pub ArePlain : List Column → List ℕ → List Value → List ℕ → Type 0
ArePlain columns text values rest =
    (pieces : List Piece) × ArePieces pieces × (map (λ p. p.0) pieces ≡ names_of columns)
    × (123 ∷ text ≡ print (Token.begin_object ∷ tokens_of pieces) ++ rest)
    × IsUtf8 (print (Token.begin_object ∷ tokens_of pieces))
    × (cells_from columns (map (λ p. Some p.1.1) pieces) ≡ Some values)
