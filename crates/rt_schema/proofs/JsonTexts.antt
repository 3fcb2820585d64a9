-- A text in a JSON value is no longer than the JSON that says it.
use Rattle.std.proofs.Common.{ℕ, zero, suc, ◌+◌, ◌-◌, ◌≤◌, ◌==◌, ◌&&◌, Bool, true, false, cond, take, drop, List, [], ◌∷◌, length, Option, Some, None, option_and_then, arith}
use Rattle.std.specs.Prelude.{IfSome, nat_eq, nat_lt}
use Rattle.std.specs.List.{starts_with}
use Rattle.std.specs.Char.{encode_utf8}
use Rattle.std.proofs.lemmas.List.{length-append}
use Rattle.json.specs.Token.{Token}
use Rattle.json.specs.Text.{code_unit, short_escape, is_high_surrogate, is_low_surrogate, surrogate_pair, Within, plain, after_backslash, after_u, after_high, prepend, content}
use Rattle.json.specs.Ascii as ascii
use Rattle.json.specs.Word.{head, ends_word, literal, number_before, after_number, word}
use Rattle.json.specs.Lex.{Lexeme, token, comma, colon, Class, quote, backslash, operator, space, other, class, operator_lexeme, string_token, Mode, between, in_word, in_string, in_escape, lex_byte, lex, Place, fresh, after_value, after_comma, after_key, begins_colon, if_allowed, may_begin, may_close, place_token, punctuate, tokens}
use Rattle.json.specs.Json.{Json, null, boolean, number, string, array, object, Items, item, Members, no_members, member, Parse, parse_map, after_end_array, read_key, items_step, members_step, items, members, value_with, value, if_last}

-- a content of at most so many bytes, where there is one
abbrev AtMost : ℕ → Option (List ℕ) → Type 0
AtMost n None = Unit {0}
AtMost n (Some s) = length s ≤ n

most_by : (n : ℕ) (b : Bool) (x y : Option (List ℕ)) → AtMost n x → AtMost n y → AtMost n (cond b x y)
most_by n true x y f g = f
most_by n false x y f g = g

most_then : (n : ℕ) (f : ℕ → Option (List ℕ)) (o : Option ℕ) → ((u : ℕ) → AtMost n (f u)) → AtMost n (option_and_then f o)
most_then n f None h = tt
most_then n f (Some u) h = h u

most_more : (n m : ℕ) (r : Option (List ℕ)) → AtMost m r → m ≤ n → AtMost n r
most_more n m None h le = tt
most_more n m (Some s) h le = omega (arith, h, le)

most_behind : (n m : ℕ) (a : List ℕ) (r : Option (List ℕ)) → AtMost m r → length a + m ≤ n → AtMost n (prepend a r)
most_behind n m a None h le = tt
most_behind n m a (Some s) h le = omega (arith, length-append a s, h, le)

encoded_most : (u : ℕ) → length (encode_utf8 u) ≤ 4
unfolding encode_utf8
encoded_most u = grind arith

content_most : (w : Within) (xs : List ℕ) → AtMost (length xs) (content w xs)
unfolding content
content_most plain [] = tt
content_most plain (x ∷ xs) =
    let n = length (x ∷ xs) in
    most_by n (x == 34) _ _ (omega arith) (most_by n (x == 92) _ _ (most_more n (length xs) _ (content_most after_backslash xs) (omega arith))
    (most_by n (nat_lt x 32) _ _ tt (most_behind n (length xs) (x ∷ []) _ (content_most plain xs) (omega arith))))
content_most after_backslash [] = tt
content_most after_backslash (x ∷ xs) =
    let n = length (x ∷ xs) in
    most_by n (x == 117) _ _ (most_more n (length xs) _ (content_most after_u xs) (omega arith)) (most_then n _ (short_escape x) (λ c. most_behind n (length xs) (c ∷ []) _ (content_most plain xs) (omega arith)))
content_most after_u [] = tt
content_most after_u (a ∷ []) = tt
content_most after_u (a ∷ b ∷ []) = tt
content_most after_u (a ∷ b ∷ c ∷ []) = tt
content_most after_u (a ∷ b ∷ c ∷ d ∷ xs) =
    let n = length (a ∷ b ∷ c ∷ d ∷ xs) in
    most_then n _ (code_unit a b c d)
    (λ u. most_by n (is_high_surrogate u) _ _ (most_more n (length xs) _ (content_most (after_high u) xs) (omega arith))
    (most_by n (is_low_surrogate u) _ _ tt (most_behind n (length xs) (encode_utf8 u) _ (content_most plain xs) (omega (arith, encoded_most u)))))
content_most (after_high h) [] = tt
content_most (after_high h) (s ∷ []) = tt
content_most (after_high h) (s ∷ u ∷ []) = tt
content_most (after_high h) (s ∷ u ∷ a ∷ []) = tt
content_most (after_high h) (s ∷ u ∷ a ∷ b ∷ []) = tt
content_most (after_high h) (s ∷ u ∷ a ∷ b ∷ c ∷ []) = tt
content_most (after_high h) (s ∷ u ∷ a ∷ b ∷ c ∷ d ∷ xs) =
    let n = length (s ∷ u ∷ a ∷ b ∷ c ∷ d ∷ xs) in
    most_by n ((s == 92) && (u == 117)) _ _ (most_then n _ (code_unit a b c d)
    (λ l. most_by n (is_low_surrogate l) _ _ (most_behind n (length xs) (encode_utf8 (surrogate_pair h l)) _ (content_most plain xs) (omega (arith, encoded_most (surrogate_pair h l)))) tt)) tt

-- a token that is no text longer than this
abbrev IsShort : ℕ → Token → Type 0
IsShort n Token.begin_object = Unit {0}
IsShort n Token.end_object = Unit {0}
IsShort n Token.begin_array = Unit {0}
IsShort n Token.end_array = Unit {0}
IsShort n (Token.key s) = Unit {0}
IsShort n (Token.string s) = length s ≤ n
IsShort n (Token.number s) = Unit {0}
IsShort n (Token.boolean b) = Unit {0}
IsShort n Token.null = Unit {0}
IsShort n Token.bad = Unit {0}

abbrev IsShortLexeme : ℕ → Lexeme → Type 0
IsShortLexeme n (token t) = IsShort n t
IsShortLexeme n comma = Unit {0}
IsShortLexeme n colon = Unit {0}

abbrev AreLexemes : ℕ → List Lexeme → Type 0
AreLexemes n [] = Unit {0}
AreLexemes n (l ∷ ls) = IsShortLexeme n l × AreLexemes n ls

abbrev AreTokens : ℕ → List Token → Type 0
AreTokens n [] = Unit {0}
AreTokens n (t ∷ ts) = IsShort n t × AreTokens n ts

string_short : (n : ℕ) (o : Option (List ℕ)) → AtMost n o → IsShort n (string_token o)
string_short n None h = tt
string_short n (Some s) h = h

operator_at : (n : ℕ) (a b c d e : Bool) →
    IsShortLexeme n (cond a (token Token.begin_object) (cond b (token Token.end_object) (cond c (token Token.begin_array) (cond d (token Token.end_array) (cond e comma colon)))))
operator_at n true b c d e = tt
operator_at n false true c d e = tt
operator_at n false false true d e = tt
operator_at n false false false true e = tt
operator_at n false false false false true = tt
operator_at n false false false false false = tt

operator_short : (n x : ℕ) → IsShortLexeme n (operator_lexeme x)
operator_short n x = operator_at n (x == 123) (x == 125) (x == 91) (x == 93) (x == 44)

token_by : (n : ℕ) (b : Bool) (x y : Token) → IsShort n x → IsShort n y → IsShort n (cond b x y)
token_by n true x y f g = f
token_by n false x y f g = g

number_short : (n : ℕ) (t : List ℕ) (o : Option (List ℕ)) → IsShort n (number_before t o)
number_short n t None = tt
number_short n t (Some rest) = token_by n (ends_word rest) (Token.number (take (length t - length rest) t)) Token.bad tt tt

literal_short : (n : ℕ) (name : List ℕ) (k : Token) (t : List ℕ) → IsShort n k → IsShort n (literal name k t)
literal_short n name k t h = token_by n (starts_with nat_eq t name && ends_word (drop (length name) t)) k Token.bad h tt

word_short : (n : ℕ) (t : List ℕ) → IsShort n (word t)
unfolding word
word_short n t =
    let last = number_before t (after_number t) in
    let third = cond (head t == ascii.lower_n) (literal ascii.null_text Token.null t) last in
    let second = cond (head t == ascii.lower_f) (literal ascii.false_text (Token.boolean false) t) third in
    token_by n (head t == ascii.lower_t) (literal ascii.true_text (Token.boolean true) t) second (literal_short n ascii.true_text (Token.boolean true) t tt)
    (token_by n (head t == ascii.lower_f) (literal ascii.false_text (Token.boolean false) t) third (literal_short n ascii.false_text (Token.boolean false) t tt)
    (token_by n (head t == ascii.lower_n) (literal ascii.null_text Token.null t) last (literal_short n ascii.null_text Token.null t tt) (number_short n t (after_number t))))

byte_short : (n : ℕ) (m : Mode) (c : Class) (x : ℕ) (xs : List ℕ) (k : Mode → List Lexeme) → length xs ≤ n → ((next : Mode) → AreLexemes n (k next)) → AreLexemes n (lex_byte m c x xs k)
byte_short n between quote x xs k h f = (string_short n (content plain xs) (most_more n (length xs) (content plain xs) (content_most plain xs) h), f in_string)
byte_short n between backslash x xs k h f = (tt, f in_word)
byte_short n between operator x xs k h f = (operator_short n x, f between)
byte_short n between space x xs k h f = f between
byte_short n between other x xs k h f = (word_short n (x ∷ xs), f in_word)
byte_short n in_word quote x xs k h f = f in_word
byte_short n in_word backslash x xs k h f = f in_word
byte_short n in_word operator x xs k h f = (operator_short n x, f between)
byte_short n in_word space x xs k h f = f between
byte_short n in_word other x xs k h f = f in_word
byte_short n in_string quote x xs k h f = f between
byte_short n in_string backslash x xs k h f = f in_escape
byte_short n in_string operator x xs k h f = f in_string
byte_short n in_string space x xs k h f = f in_string
byte_short n in_string other x xs k h f = f in_string
byte_short n in_escape c x xs k h f = f in_string

lex_short : (n : ℕ) (m : Mode) (xs : List ℕ) → length xs ≤ n → AreLexemes n (lex m xs)
unfolding lex
lex_short n m [] h = tt
lex_short n m (x ∷ xs) h = let rest : length xs ≤ n = omega (arith, h) in byte_short n m (class x) x xs (λ next. lex next xs) rest (λ next. lex_short n next xs rest)

allowed_short : (n : ℕ) (b : Bool) (t : Token) (k : Place → List Token) (next : Place) → IsShort n t → AreTokens n (k next) → AreTokens n (if_allowed b t k next)
allowed_short n true t k next h f = (h, f)
allowed_short n false t k next h f = (tt, tt)

place_short : (n : ℕ) (p : Place) (t : Token) (b : Bool) (k : Place → List Token) → IsShort n t → ((next : Place) → AreTokens n (k next)) → AreTokens n (place_token p t b k)
place_short n p Token.begin_object b k h f = allowed_short n (may_begin p) Token.begin_object k fresh tt (f fresh)
place_short n p Token.end_object b k h f = allowed_short n (may_close p) Token.end_object k after_value tt (f after_value)
place_short n p Token.begin_array b k h f = allowed_short n (may_begin p) Token.begin_array k fresh tt (f fresh)
place_short n p Token.end_array b k h f = allowed_short n (may_close p) Token.end_array k after_value tt (f after_value)
place_short n p (Token.key s) b k h f = (tt, tt)
place_short n p (Token.string s) true k h f = allowed_short n (may_begin p) (Token.key s) k after_key tt (f after_key)
place_short n p (Token.string s) false k h f = allowed_short n (may_begin p) (Token.string s) k after_value h (f after_value)
place_short n p (Token.number s) b k h f = allowed_short n (may_begin p) (Token.number s) k after_value tt (f after_value)
place_short n p (Token.boolean v) b k h f = allowed_short n (may_begin p) (Token.boolean v) k after_value tt (f after_value)
place_short n p Token.null b k h f = allowed_short n (may_begin p) Token.null k after_value tt (f after_value)
place_short n p Token.bad b k h f = (tt, tt)

punctuated_short : (n : ℕ) (p : Place) (ls : List Lexeme) → AreLexemes n ls → AreTokens n (punctuate p ls)
unfolding punctuate
punctuated_short n fresh [] h = tt
punctuated_short n after_value [] h = tt
punctuated_short n after_comma [] h = (tt, tt)
punctuated_short n after_key [] h = (tt, tt)
punctuated_short n fresh (token t ∷ ls) h = place_short n fresh t (begins_colon ls) (λ next. punctuate next ls) h.0 (λ next. punctuated_short n next ls h.1)
punctuated_short n after_value (token t ∷ ls) h = place_short n after_value t (begins_colon ls) (λ next. punctuate next ls) h.0 (λ next. punctuated_short n next ls h.1)
punctuated_short n after_comma (token t ∷ ls) h = place_short n after_comma t (begins_colon ls) (λ next. punctuate next ls) h.0 (λ next. punctuated_short n next ls h.1)
punctuated_short n after_key (token t ∷ ls) h = place_short n after_key t (begins_colon ls) (λ next. punctuate next ls) h.0 (λ next. punctuated_short n next ls h.1)
punctuated_short n fresh (comma ∷ ls) h = (tt, tt)
punctuated_short n after_value (comma ∷ ls) h = punctuated_short n after_comma ls h.1
punctuated_short n after_comma (comma ∷ ls) h = (tt, tt)
punctuated_short n after_key (comma ∷ ls) h = (tt, tt)
punctuated_short n fresh (colon ∷ ls) h = (tt, tt)
punctuated_short n after_value (colon ∷ ls) h = (tt, tt)
punctuated_short n after_comma (colon ∷ ls) h = (tt, tt)
punctuated_short n after_key (colon ∷ ls) h = punctuated_short n fresh ls h.1

tokens_short : (text : List ℕ) → AreTokens (length text) (tokens text)
tokens_short text = punctuated_short (length text) fresh (lex between text) (lex_short (length text) between text (omega arith))

-- a JSON value that is no text longer than this
abbrev pub IsShortJson : ℕ → Json → Type 0
IsShortJson n null = Unit {0}
IsShortJson n (boolean b) = Unit {0}
IsShortJson n (number s) = Unit {0}
IsShortJson n (string s) = length s ≤ n
IsShortJson n (array js) = Unit {0}
IsShortJson n (object ms) = Unit {0}

abbrev pub AreShortMembers : ℕ → Members → Type 0
AreShortMembers n no_members = Unit {0}
AreShortMembers n (member k j ms) = IsShortJson n j × AreShortMembers n ms

-- an object has no such members
abbrev pub HasShort : ℕ → Json → Type 0
HasShort n null = Unit {0}
HasShort n (boolean b) = Unit {0}
HasShort n (number s) = Unit {0}
HasShort n (string s) = Unit {0}
HasShort n (array js) = Unit {0}
HasShort n (object ms) = AreShortMembers n ms

abbrev Gives : ℕ → Option (Json × List Token) → Type 0
Gives n o = IfSome o (λ p. IsShortJson n p.0 × HasShort n p.0 × AreTokens n p.1)

abbrev GivesMembers : ℕ → Option (Members × List Token) → Type 0
GivesMembers n o = IfSome o (λ p. AreShortMembers n p.0 × AreTokens n p.1)

abbrev Leaves : ℕ → {A : Type 0} → Option (A × List Token) → Type 0
Leaves n o = IfSome o (λ p. AreTokens n p.1)

end_leaves : (n : ℕ) (ts : List Token) → AreTokens n ts → IfSome (after_end_array ts) (AreTokens n)
end_leaves n [] h = tt
end_leaves n (Token.begin_object ∷ ts) h = tt
end_leaves n (Token.end_object ∷ ts) h = tt
end_leaves n (Token.begin_array ∷ ts) h = tt
end_leaves n (Token.end_array ∷ ts) h = h.1
end_leaves n (Token.key s ∷ ts) h = tt
end_leaves n (Token.string s ∷ ts) h = tt
end_leaves n (Token.number s ∷ ts) h = tt
end_leaves n (Token.boolean b ∷ ts) h = tt
end_leaves n (Token.null ∷ ts) h = tt
end_leaves n (Token.bad ∷ ts) h = tt

key_leaves : (n : ℕ) (ts : List Token) → AreTokens n ts → IfSome (read_key ts) (λ p. AreTokens n p.1)
key_leaves n [] h = tt
key_leaves n (Token.begin_object ∷ ts) h = tt
key_leaves n (Token.end_object ∷ ts) h = h.1
key_leaves n (Token.begin_array ∷ ts) h = tt
key_leaves n (Token.end_array ∷ ts) h = tt
key_leaves n (Token.key s ∷ ts) h = h.1
key_leaves n (Token.string s ∷ ts) h = tt
key_leaves n (Token.number s ∷ ts) h = tt
key_leaves n (Token.boolean b ∷ ts) h = tt
key_leaves n (Token.null ∷ ts) h = tt
key_leaves n (Token.bad ∷ ts) h = tt

abbrev Given : ℕ → Parse Json → Type 0
Given n v = (ts : List Token) → AreTokens n ts → Gives n (v ts)

map_leaves : (n : ℕ) (j : Json) (o : Option (Items × List Token)) → IfSome o (λ p. AreTokens n p.1) → IfSome (parse_map (item j) o) (λ p. AreTokens n p.1)
map_leaves n j None h = tt
map_leaves n j (Some p) h = h

item_leaves : (n : ℕ) (more : Parse Items) (o : Option (Json × List Token)) → Gives n o → ((ts : List Token) → AreTokens n ts → IfSome (more ts) (λ p. AreTokens n p.1)) →
    IfSome (option_and_then (λ p. parse_map (item p.0) (more p.1)) o) (λ p. AreTokens n p.1)
item_leaves n more None g f = tt
item_leaves n more (Some p) g f = map_leaves n p.0 (more p.1) (f p.1 g.2)

step_leaves : (n : ℕ) (v : Parse Json) (more : Parse Items) (ts : List Token) (end : Option (List Token)) → Given n v → AreTokens n ts → IfSome end (AreTokens n) →
    ((rest : List Token) → AreTokens n rest → IfSome (more rest) (λ p. AreTokens n p.1)) → IfSome (items_step v more ts end) (λ p. AreTokens n p.1)
step_leaves n v more ts (Some rest) g h e f = e
step_leaves n v more ts None g h e f = item_leaves n more (v ts) (g ts h) f

items_leave : (n : ℕ) (v : Parse Json) (fuel : ℕ) (ts : List Token) → Given n v → AreTokens n ts → IfSome (items v fuel ts) (λ p. AreTokens n p.1)
unfolding items
items_leave n v zero ts g h = tt
items_leave n v (suc fuel) ts g h = step_leaves n v (items v fuel) ts (after_end_array ts) g h (end_leaves n ts h) (λ rest r. items_leave n v fuel rest g r)

member_gives : (n : ℕ) (k : List ℕ) (j : Json) (o : Option (Members × List Token)) → IsShortJson n j → GivesMembers n o → GivesMembers n (parse_map (member k j) o)
member_gives n k j None s h = tt
member_gives n k j (Some p) s h = ((s, h.0), h.1)

next_gives : (n : ℕ) (k : List ℕ) (more : Parse Members) (o : Option (Json × List Token)) → Gives n o → ((ts : List Token) → AreTokens n ts → GivesMembers n (more ts)) →
    GivesMembers n (option_and_then (λ p. parse_map (member k p.0) (more p.1)) o)
next_gives n k more None g f = tt
next_gives n k more (Some p) g f = member_gives n k p.0 (more p.1) g.0 (f p.1 g.2)

key_gives : (n : ℕ) (v : Parse Json) (more : Parse Members) (k : Option (List ℕ)) (ts : List Token) → Given n v → AreTokens n ts → ((rest : List Token) → AreTokens n rest → GivesMembers n (more rest)) →
    GivesMembers n (members_step v more k ts)
key_gives n v more None ts g h f = (tt, h)
key_gives n v more (Some k) ts g h f = next_gives n k more (v ts) (g ts h) f

read_gives : (n : ℕ) (v : Parse Json) (more : Parse Members) (o : Option (Option (List ℕ) × List Token)) → Given n v → IfSome o (λ p. AreTokens n p.1) → ((rest : List Token) → AreTokens n rest → GivesMembers n (more rest)) →
    GivesMembers n (option_and_then (λ p. members_step v more p.0 p.1) o)
read_gives n v more None g h f = tt
read_gives n v more (Some p) g h f = key_gives n v more p.0 p.1 g h f

members_give : (n : ℕ) (v : Parse Json) (fuel : ℕ) (ts : List Token) → Given n v → AreTokens n ts → GivesMembers n (members v fuel ts)
unfolding members
members_give n v zero ts g h = tt
members_give n v (suc fuel) ts g h = read_gives n v (members v fuel) (read_key ts) g (key_leaves n ts h) (λ rest r. members_give n v fuel rest g r)

array_gives : (n : ℕ) (o : Option (Items × List Token)) → IfSome o (λ p. AreTokens n p.1) → Gives n (parse_map array o)
array_gives n None h = tt
array_gives n (Some p) h = (tt, tt, h)

object_gives : (n : ℕ) (o : Option (Members × List Token)) → GivesMembers n o → Gives n (parse_map object o)
object_gives n None h = tt
object_gives n (Some p) h = (tt, h.0, h.1)

value_gives : (n : ℕ) (a : Parse Items) (o : Parse Members) (ts : List Token) → ((rest : List Token) → AreTokens n rest → IfSome (a rest) (λ p. AreTokens n p.1)) → ((rest : List Token) → AreTokens n rest → GivesMembers n (o rest)) →
    AreTokens n ts → Gives n (value_with a o ts)
value_gives n a o [] f g h = tt
value_gives n a o (Token.begin_object ∷ ts) f g h = object_gives n (o ts) (g ts h.1)
value_gives n a o (Token.end_object ∷ ts) f g h = tt
value_gives n a o (Token.begin_array ∷ ts) f g h = array_gives n (a ts) (f ts h.1)
value_gives n a o (Token.end_array ∷ ts) f g h = tt
value_gives n a o (Token.key s ∷ ts) f g h = tt
value_gives n a o (Token.string s ∷ ts) f g h = (h.0, tt, h.1)
value_gives n a o (Token.number s ∷ ts) f g h = (tt, tt, h.1)
value_gives n a o (Token.boolean b ∷ ts) f g h = (tt, tt, h.1)
value_gives n a o (Token.null ∷ ts) f g h = (tt, tt, h.1)
value_gives n a o (Token.bad ∷ ts) f g h = tt

values_give : (n depth : ℕ) → Given n (value depth)
unfolding value
values_give n zero ts h = value_gives n (λ ts. None) (λ ts. None) ts (λ rest r. tt) (λ rest r. tt) h
values_give n (suc depth) ts h =
    value_gives n (λ ts. items (value depth) (length ts) ts) (λ ts. members (value depth) (length ts) ts) ts (λ rest r. items_leave n (value depth) (length rest) rest (values_give n depth) r)
    (λ rest r. members_give n (value depth) (length rest) rest (values_give n depth) r) h

last_has : (n : ℕ) (j : Json) (ts : List Token) → HasShort n j → IfSome (if_last j ts) (HasShort n)
last_has n j [] h = h
last_has n j (t ∷ ts) h = tt

then_last : (n : ℕ) (o : Option (Json × List Token)) → Gives n o → IfSome (option_and_then (λ p. if_last p.0 p.1) o) (HasShort n)
then_last n None g = tt
then_last n (Some p) g = last_has n p.0 p.1 g.1

-- the members of the object that a text is
pub json_short : (depth : ℕ) (text : List ℕ) → IfSome (option_and_then (λ p. if_last p.0 p.1) (value depth (tokens text))) (HasShort (length text))
json_short depth text = then_last (length text) (value depth (tokens text)) (values_give (length text) depth (tokens text) (tokens_short text))
