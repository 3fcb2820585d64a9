-- The tokens of a text: at each byte that neither is a blank nor belongs to the token before it, the longest token begins.
use Rattle.std.specs.Prelude.{ℕ, zero, suc, ◌+◌, ◌-◌, ◌*◌, ◌^◌, ◌==◌, ◌&&◌, ◌||◌, Bool, not, List, [], ◌∷◌, ◌++◌, map, length, take, slice_index, nat_lt, nat_le, codes, Option, Some, None, option_map, if◌then◌else◌}
use Rattle.std.specs.Char.{is_ascii_alphabetic, is_ascii_alphanumeric, is_ascii_digit, to_ascii_lowercase}
use Rattle.std.specs.List.{prefix_len}
use Rattle.std.specs.Str.{bytes_eq}
use Rattle.rt_model.specs.declared.query_parts.Comparison.TheVariants.{Equal, NotEqual, Less, AtMost, Greater, AtLeast}
use Rattle.rt_tokens.specs.declared.content.Content.{Content}
use Rattle.rt_tokens.specs.declared.lexeme.Lexeme.{Lexeme}
use Rattle.rt_tokens.specs.declared.lexeme.Lexeme.TheVariants.{Word, Name, Number, Text, Comparison, Unread}
use Rattle.rt_tokens.specs.declared.lexeme.Word.{Word as Fixed}
use Rattle.rt_tokens.specs.declared.lexeme.Word.TheVariants as word
use Rattle.rt_tokens.specs.declared.lexer.Lexed.{Lexed}
use Rattle.rt_tokens.specs.declared.token.Token.{Token}

-- spaces and tabs separate
abbrev pub is_blank : ℕ → Bool
is_blank b = b == 32 || b == 9

abbrev pub is_name_start : ℕ → Bool
is_name_start b = is_ascii_alphabetic b || b == 95

abbrev pub is_name_byte : ℕ → Bool
is_name_byte b = is_ascii_alphanumeric b || b == 95

-- neither a double quote nor a newline
abbrev pub is_quotable : ℕ → Bool
is_quotable b = not (b == 34) && not (b == 10)

-- a token, and how many bytes it has
abbrev pub token : ℕ → Lexeme → Lexed
token length lexeme = record { lexeme = lexeme; length = length }

abbrev pub other_word_named : List ℕ → Option Fixed
other_word_named name =
    if bytes_eq name (codes "asc") then Some word.Ascending
    else (if bytes_eq name (codes "desc") then Some word.Descending
    else (if bytes_eq name (codes "or") then Some word.Or
    else (if bytes_eq name (codes "and") then Some word.And
    else (if bytes_eq name (codes "not") then Some word.Not
    else (if bytes_eq name (codes "between") then Some word.Between
    else (if bytes_eq name (codes "in") then Some word.In
    else (if bytes_eq name (codes "true") then Some word.True
    else (if bytes_eq name (codes "false") then Some word.False else None))))))))

-- the word of the grammar that lower-case letters are
abbrev pub word_named : List ℕ → Option Fixed
word_named name =
    if bytes_eq name (codes "select") then Some word.Select
    else (if bytes_eq name (codes "from") then Some word.From
    else (if bytes_eq name (codes "where") then Some word.Where
    else (if bytes_eq name (codes "group") then Some word.Group
    else (if bytes_eq name (codes "by") then Some word.By
    else (if bytes_eq name (codes "order") then Some word.Order
    else (if bytes_eq name (codes "limit") then Some word.Limit
    else (if bytes_eq name (codes "count") then Some word.Count
    else (if bytes_eq name (codes "sum") then Some word.Sum
    else (if bytes_eq name (codes "min") then Some word.Min
    else (if bytes_eq name (codes "max") then Some word.Max
    else other_word_named name))))))))))

abbrev pub word_or_name : List ℕ → Option Fixed → Lexeme
word_or_name name (Some word) = Word word
word_or_name name None = Name name

-- words are read in any case, and can't be plain names
abbrev pub lexeme_of : List ℕ → Lexeme
lexeme_of name = word_or_name name (word_named (map to_ascii_lowercase name))

-- the number of digits, where it is below 2^64
abbrev pub with_digit : Option ℕ → ℕ → Option ℕ
with_digit None digit = None
with_digit (Some n) digit = if nat_lt (10 * n + (digit - 48)) (2 ^ 64) then Some (10 * n + (digit - 48)) else None

abbrev pub number_from : Option ℕ → List ℕ → Option ℕ
number_from n [] = n
number_from n (digit ∷ digits) = number_from (with_digit n digit) digits

-- a plain name or a word: as many bytes of a name as there are
abbrev pub named : List ℕ → Lexed
named bytes = token (prefix_len is_name_byte bytes) (lexeme_of (take (prefix_len is_name_byte bytes) bytes))

abbrev pub numbered : List ℕ → Lexed
numbered bytes = token (prefix_len is_ascii_digit bytes) (Number (number_from (Some 0) (take (prefix_len is_ascii_digit bytes) bytes)))

-- a name in double quotes, of which the first was read: 1 to 128 bytes
abbrev pub quoted : List ℕ → Option Lexed
quoted bytes =
    if slice_index bytes (prefix_len is_quotable bytes) == 34 && nat_le 1 (prefix_len is_quotable bytes) && nat_le (prefix_len is_quotable bytes) 128
    then Some (token (prefix_len is_quotable bytes + 2) (Name (take (prefix_len is_quotable bytes) bytes))) else None

abbrev pub behind : List ℕ → ℕ → Option Content → Option Content
behind front size content = option_map (λ c. record { text = front ++ c.text; size = size + c.size }) content

-- what stands up to the next lone quote, two quotes being one
abbrev pub content : List ℕ → Option Content
content [] = None
content (b ∷ []) = if b == 39 then Some (record { text = []; size = 1 }) else None
content (b ∷ c ∷ bytes) =
    if b == 39 then (if c == 39 then behind (39 ∷ []) 2 (content bytes) else Some (record { text = []; size = 1 }))
    else behind (b ∷ []) 1 (content (c ∷ bytes))

-- a text in quotes, of which the first was read
abbrev pub quoted_text : List ℕ → Option Lexed
quoted_text bytes = option_map (λ c. record { lexeme = Text c.text; length = c.size + 1 }) (content bytes)

abbrev pub less : ℕ → Lexed
less next =
    if next == 62 then token 2 (Comparison NotEqual)
    else (if next == 61 then token 2 (Comparison AtMost) else token 1 (Comparison Less))

abbrev pub not_equal : ℕ → Option Lexed
not_equal next = if next == 61 then Some (token 2 (Comparison NotEqual)) else None

abbrev pub greater : ℕ → Lexed
greater next = if next == 61 then token 2 (Comparison AtLeast) else token 1 (Comparison Greater)

abbrev pub comparison : ℕ → ℕ → Option Lexed
comparison b next =
    if b == 61 then Some (token 1 (Comparison Equal))
    else (if b == 60 then Some (less next)
    else (if b == 62 then Some (greater next)
    else (if b == 33 then not_equal next else None)))

-- a sign of one byte, or of two
abbrev pub sign : ℕ → ℕ → Option Lexed
sign b next =
    if b == 44 then Some (token 1 (Word word.Comma))
    else (if b == 40 then Some (token 1 (Word word.Open))
    else (if b == 41 then Some (token 1 (Word word.Close))
    else (if b == 42 then Some (token 1 (Word word.Star))
    else (if b == 45 then Some (token 1 (Word word.Minus))
    else (if b == 59 then Some (token 1 (Word word.Semicolon))
    else comparison b next)))))

-- the token that a text begins with, if it begins with one
abbrev pub first_token : List ℕ → Option Lexed
first_token [] = None
first_token (b ∷ bytes) =
    if is_name_start b then Some (named (b ∷ bytes))
    else (if is_ascii_digit b then Some (numbered (b ∷ bytes))
    else (if b == 34 then quoted bytes
    else (if b == 39 then quoted_text bytes
    else sign b (slice_index bytes 0))))

-- a token at this byte, and what follows it; what is no token ends the list
abbrev pub begin : ℕ → Option Lexed → (ℕ → List Token) → List Token
begin byte None more = record { byte = byte; lexeme = Unread } ∷ []
begin byte (Some lexed) more = record { byte = byte; lexeme = lexed.lexeme } ∷ more (lexed.length - 1)

-- the tokens of what stands at a byte, of which so many bytes belong to the token before
abbrev pub tokens_at : ℕ → ℕ → List ℕ → List Token
tokens_at skip byte [] = []
tokens_at (suc skip) byte (b ∷ bytes) = tokens_at skip (suc byte) bytes
tokens_at zero byte (b ∷ bytes) = if is_blank b then tokens_at 0 (suc byte) bytes else begin byte (first_token (b ∷ bytes)) (λ skip. tokens_at skip (suc byte) bytes)

abbrev pub tokens_of : List ℕ → List Token
tokens_of text = tokens_at 0 0 text
