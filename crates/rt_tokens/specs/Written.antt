-- How tokens are written, said from the tokens' side: a text is blanks and the bytes of its tokens, one behind the other.
use Rattle.std.specs.Prelude.{◌≡◌, ℕ, ◌+◌, ◌==◌, ◌⊎◌, Bool, true, false, List, [], ◌∷◌, ◌++◌, map, length, ◌≤◌, slice_index, codes, Option, Some, if◌then◌else◌}
use Rattle.std.specs.Char.{is_ascii_digit, to_ascii_lowercase}
use Rattle.rt_model.specs.declared.query_parts.Comparison.{Comparison as Compared}
use Rattle.rt_model.specs.declared.query_parts.Comparison.TheVariants.{Equal, NotEqual, Less, AtMost, Greater, AtLeast}
use Rattle.rt_tokens.specs.Tokens.{is_blank, is_name_start, is_name_byte, is_quotable, number_from}
use Rattle.rt_tokens.specs.declared.lexeme.Lexeme.{Lexeme}
use Rattle.rt_tokens.specs.declared.lexeme.Lexeme.TheVariants.{Word, Name, Number, Text, Comparison, Unread}
use Rattle.rt_tokens.specs.declared.lexeme.Word.{Word as Fixed}
use Rattle.rt_tokens.specs.declared.lexeme.Word.TheVariants as word
use Rattle.rt_tokens.specs.declared.token.Token.{Token}

-- all bytes pass a test
abbrev pub Are : (ℕ → Bool) → List ℕ → Type 0
Are p [] = Unit {0}
Are p (b ∷ bytes) = (p b ≡ true) × Are p bytes

-- the next byte, if there is one, fails a test
abbrev pub Ends : (ℕ → Bool) → List ℕ → Type 0
Ends p [] = Unit {0}
Ends p (b ∷ bytes) = p b ≡ false

-- a word of the grammar in lower case, or a sign
abbrev pub letters : Fixed → List ℕ
letters word.Select = codes "select"
letters word.From = codes "from"
letters word.Where = codes "where"
letters word.Group = codes "group"
letters word.By = codes "by"
letters word.Order = codes "order"
letters word.Limit = codes "limit"
letters word.Count = codes "count"
letters word.Sum = codes "sum"
letters word.Min = codes "min"
letters word.Max = codes "max"
letters word.Ascending = codes "asc"
letters word.Descending = codes "desc"
letters word.Or = codes "or"
letters word.And = codes "and"
letters word.Not = codes "not"
letters word.Between = codes "between"
letters word.In = codes "in"
letters word.True = codes "true"
letters word.False = codes "false"
letters word.Comma = codes ","
letters word.Open = codes "("
letters word.Close = codes ")"
letters word.Star = codes "*"
letters word.Minus = codes "-"
letters word.Semicolon = codes ";"

-- a word in any case; one of letters ends before what is no byte of a name
pub record IsWord (w : Fixed) (bytes later : List ℕ) : Type 0 where
  pub letters : map to_ascii_lowercase bytes ≡ letters w
  pub whole : is_name_start (slice_index bytes 0) ≡ true → Ends is_name_byte later

-- a plain name: as many bytes of a name as there are, which are no word
pub record IsPlain (name bytes later : List ℕ) : Type 0 where
  pub same : bytes ≡ name
  pub first : is_name_start (slice_index bytes 0) ≡ true
  pub rest : Are is_name_byte bytes
  pub whole : Ends is_name_byte later
  pub none : (w : Fixed) → map to_ascii_lowercase bytes ≡ letters w → ⊥

-- a name in double quotes, of 1 to 128 bytes
pub record IsQuoted (name bytes : List ℕ) : Type 0 where
  pub same : bytes ≡ 34 ∷ name ++ 34 ∷ []
  pub rest : Are is_quotable name
  pub some : 1 ≤ length name
  pub few : length name ≤ 128

-- as many digits as there are
pub record IsNumber (n : Option ℕ) (bytes later : List ℕ) : Type 0 where
  pub digits : Are is_ascii_digit bytes
  pub some : 1 ≤ length bytes
  pub whole : Ends is_ascii_digit later
  pub value : n ≡ number_from (Some 0) bytes

-- a text with each quote in it written twice
abbrev pub doubled : List ℕ → List ℕ
doubled [] = []
doubled (b ∷ text) = if b == 39 then 39 ∷ 39 ∷ doubled text else b ∷ doubled text

abbrev pub is_quote : ℕ → Bool
is_quote b = b == 39

-- a text in quotes, behind which no quote stands
pub record IsText (text bytes later : List ℕ) : Type 0 where
  pub same : bytes ≡ 39 ∷ doubled text ++ 39 ∷ []
  pub whole : Ends is_quote later

abbrev pub is_equals : ℕ → Bool
is_equals b = b == 61

abbrev pub is_angle : ℕ → Bool
is_angle b = b == 62

-- a sign of comparison, the longest that stands there
abbrev pub IsComparison : Compared → List ℕ → List ℕ → Type 0
IsComparison Equal bytes later = bytes ≡ codes "="
IsComparison NotEqual bytes later = (bytes ≡ codes "!=") ⊎ (bytes ≡ codes "<>")
IsComparison Less bytes later = (bytes ≡ codes "<") × Ends is_equals later × Ends is_angle later
IsComparison AtMost bytes later = bytes ≡ codes "<="
IsComparison Greater bytes later = (bytes ≡ codes ">") × Ends is_equals later
IsComparison AtLeast bytes later = bytes ≡ codes ">="

-- these bytes are written for a token, and the token ends before what follows
abbrev pub IsWritten : Lexeme → List ℕ → List ℕ → Type 0
IsWritten (Word w) bytes later = IsWord w bytes later
IsWritten (Name name) bytes later = IsPlain name bytes later ⊎ IsQuoted name bytes
IsWritten (Number n) bytes later = IsNumber n bytes later
IsWritten (Text text) bytes later = IsText text bytes later
IsWritten (Comparison c) bytes later = IsComparison c bytes later
IsWritten Unread bytes later = ⊥

-- no token is written at the beginning of these bytes, of which the first is no blank
pub record HasNoToken (bytes : List ℕ) : Type 0 where
  pub some : 1 ≤ length bytes
  pub first : Ends is_blank bytes
  pub none : (lexeme : Lexeme) (written later : List ℕ) → bytes ≡ written ++ later → IsWritten lexeme written later → ⊥

-- a token is written here, and what follows it, so many bytes on, goes on as said
abbrev pub Begins : Lexeme → List ℕ → (ℕ → List ℕ → Type 0) → Type 0
Begins lexeme bytes GoesOn = (written : List ℕ) × (later : List ℕ) × (bytes ≡ written ++ later) × IsWritten lexeme written later × GoesOn (length written) later

-- bytes that are no token: behind them nothing is read
abbrev pub IsLast : Lexeme → List ℕ → List Token → Type 0
IsLast lexeme bytes more = (lexeme ≡ Unread) × HasNoToken bytes × (more ≡ [])

-- what stands from a byte of a text on is blanks and the bytes of these tokens, each at its place; only what is no token is left over
abbrev pub Tile : ℕ → List ℕ → List Token → Type 0
Tile at bytes [] = Are is_blank bytes
Tile at bytes (t ∷ more) = (blanks : List ℕ) × (rest : List ℕ) × Are is_blank blanks × (bytes ≡ blanks ++ rest) × (t.byte ≡ at + length blanks)
    × (Begins t.lexeme rest (λ size later. Tile (t.byte + size) later more) ⊎ IsLast t.lexeme rest more)
