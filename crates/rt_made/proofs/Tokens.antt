-- The texts of the tokens of a JSON text that is UTF-8 are UTF-8.
use Rattle.std.proofs.Common.{ℕ, ◌-◌, ◌==◌, ◌&&◌, Bool, true, false, cond, List, [], ◌∷◌, ◌++◌, length, take, drop, Option, Some, None, IsUtf8, sym, subst, arith, append_assoc, eqb-true}
use Rattle.std.specs.Prelude.{IfSome, nat_eq}
use Rattle.std.specs.List.{starts_with}
use Rattle.json.specs.Ascii as ascii
use Rattle.json.specs.Lex.{Lexeme, token, comma, colon, Class, quote, backslash, operator, space, other, class, operator_lexeme, string_token, Mode, between, in_word, in_string, in_escape, lex_byte, lex, Place, fresh, after_value, after_comma, after_key, begins_colon, if_allowed, may_begin, may_close, place_token, punctuate, tokens}
use Rattle.json.specs.Text.{content, plain}
use Rattle.json.specs.Token.{Token}
use Rattle.json.specs.Word.{after_number, ends_word, head, is_operator, is_space, literal, number_before, word}
use Rattle.rt_made.proofs.Contents.{at_seam, content_utf8, if_so}

-- what is left of a text that is UTF-8, behind some byte of it
abbrev IsTail : List ℕ → Type 0
IsTail xs = (front : List ℕ) × IsUtf8 (front ++ xs)

tail_more : (x : ℕ) (xs : List ℕ) → IsTail (x ∷ xs) → IsTail xs
tail_more x xs t = (t.0 ++ x ∷ [], subst IsUtf8 (sym (append_assoc t.0 (x ∷ []) xs)) t.1)

-- ---- tokens

abbrev pub HasText : Token → Type 0
HasText Token.begin_object = Unit {0}
HasText Token.end_object = Unit {0}
HasText Token.begin_array = Unit {0}
HasText Token.end_array = Unit {0}
HasText (Token.key s) = Unit {0}
HasText (Token.string s) = IsUtf8 s
HasText (Token.number s) = Unit {0}
HasText (Token.boolean b) = Unit {0}
HasText Token.null = Unit {0}
HasText Token.bad = Unit {0}

abbrev HaveTexts : List Lexeme → Type 0
HaveTexts [] = Unit {0}
HaveTexts (token t ∷ ls) = HasText t × HaveTexts ls
HaveTexts (comma ∷ ls) = HaveTexts ls
HaveTexts (colon ∷ ls) = HaveTexts ls

abbrev pub AreTexts : List Token → Type 0
AreTexts [] = Unit {0}
AreTexts (t ∷ ts) = HasText t × AreTexts ts

string_text : (o : Option (List ℕ)) → IfSome o IsUtf8 → HasText (string_token o)
string_text None h = tt
string_text (Some s) h = h

either_text : (b : Bool) (x y : Token) → HasText x → HasText y → HasText (cond b x y)
either_text true x y f g = f
either_text false x y f g = g

number_text : (t : List ℕ) (o : Option (List ℕ)) → HasText (number_before t o)
number_text t None = tt
number_text t (Some rest) = either_text (ends_word rest) (Token.number (take (length t - length rest) t)) Token.bad tt tt

literal_text : (name : List ℕ) (k : Token) (t : List ℕ) → HasText k → HasText (literal name k t)
literal_text name k t h = either_text (starts_with nat_eq t name && ends_word (drop (length name) t)) k Token.bad h tt

word_text : (t : List ℕ) → HasText (word t)
unfolding word
word_text t =
    let last = number_before t (after_number t) in
    let third = cond (head t == ascii.lower_n) (literal ascii.null_text Token.null t) last in
    let second = cond (head t == ascii.lower_f) (literal ascii.false_text (Token.boolean false) t) third in
    either_text (head t == ascii.lower_t) (literal ascii.true_text (Token.boolean true) t) second (literal_text ascii.true_text (Token.boolean true) t tt)
    (either_text (head t == ascii.lower_f) (literal ascii.false_text (Token.boolean false) t) third (literal_text ascii.false_text (Token.boolean false) t tt)
    (either_text (head t == ascii.lower_n) (literal ascii.null_text Token.null t) last (literal_text ascii.null_text Token.null t tt) (number_text t (after_number t))))

operator_at : (a b c d e : Bool) (ls : List Lexeme) → HaveTexts ls
    → HaveTexts (cond a (token Token.begin_object) (cond b (token Token.end_object) (cond c (token Token.begin_array) (cond d (token Token.end_array) (cond e comma colon)))) ∷ ls)
operator_at true b c d e ls h = (tt, h)
operator_at false true c d e ls h = (tt, h)
operator_at false false true d e ls h = (tt, h)
operator_at false false false true e ls h = (tt, h)
operator_at false false false false true ls h = h
operator_at false false false false false ls h = h

operator_texts : (x : ℕ) (ls : List Lexeme) → HaveTexts ls → HaveTexts (operator_lexeme x ∷ ls)
operator_texts x ls h = operator_at (x == 123) (x == 125) (x == 91) (x == 93) (x == 44) ls h

-- behind a quote a text may begin
abbrev Behind : Class → List ℕ → Type 0
Behind quote xs = IsUtf8 xs
Behind backslash xs = Unit {0}
Behind operator xs = Unit {0}
Behind space xs = Unit {0}
Behind other xs = Unit {0}

behind_class : (x : ℕ) (xs : List ℕ) → IsTail (x ∷ xs) → Behind (class x) xs
behind_class x xs t =
    let Q : Class → Type 0 = λ c. Behind c xs in
    if_so Q (x == 34) quote _ (λ e. let is = eqb-true x 34 e in (at_seam t.0 xs x t.1 (omega arith)).1)
    (λ _. if_so Q (x == 92) backslash _ (λ _. tt) (λ _. if_so Q (is_operator x) operator _ (λ _. tt) (λ _. if_so Q (is_space x) space other (λ _. tt) (λ _. tt))))

byte_texts : (m : Mode) (c : Class) (x : ℕ) (xs : List ℕ) (k : Mode → List Lexeme) → Behind c xs → ((next : Mode) → HaveTexts (k next)) → HaveTexts (lex_byte m c x xs k)
byte_texts between quote x xs k b f = (string_text (content plain xs) (content_utf8 xs b), f in_string)
byte_texts between backslash x xs k b f = (tt, f in_word)
byte_texts between operator x xs k b f = operator_texts x (k between) (f between)
byte_texts between space x xs k b f = f between
byte_texts between other x xs k b f = (word_text (x ∷ xs), f in_word)
byte_texts in_word quote x xs k b f = f in_word
byte_texts in_word backslash x xs k b f = f in_word
byte_texts in_word operator x xs k b f = operator_texts x (k between) (f between)
byte_texts in_word space x xs k b f = f between
byte_texts in_word other x xs k b f = f in_word
byte_texts in_string quote x xs k b f = f between
byte_texts in_string backslash x xs k b f = f in_escape
byte_texts in_string operator x xs k b f = f in_string
byte_texts in_string space x xs k b f = f in_string
byte_texts in_string other x xs k b f = f in_string
byte_texts in_escape c x xs k b f = f in_string

lexed_texts : (m : Mode) (xs : List ℕ) → IsTail xs → HaveTexts (lex m xs)
unfolding lex
lexed_texts m [] t = tt
lexed_texts m (x ∷ xs) t = byte_texts m (class x) x xs (λ next. lex next xs) (behind_class x xs t) (λ next. lexed_texts next xs (tail_more x xs t))

-- ---- commas and colons

allowed_texts : (b : Bool) (t : Token) (k : Place → List Token) (next : Place) → HasText t → AreTexts (k next) → AreTexts (if_allowed b t k next)
allowed_texts true t k next h f = (h, f)
allowed_texts false t k next h f = (tt, tt)

place_texts : (p : Place) (t : Token) (b : Bool) (k : Place → List Token) → HasText t → ((next : Place) → AreTexts (k next)) → AreTexts (place_token p t b k)
place_texts p Token.begin_object b k h f = allowed_texts (may_begin p) Token.begin_object k fresh tt (f fresh)
place_texts p Token.end_object b k h f = allowed_texts (may_close p) Token.end_object k after_value tt (f after_value)
place_texts p Token.begin_array b k h f = allowed_texts (may_begin p) Token.begin_array k fresh tt (f fresh)
place_texts p Token.end_array b k h f = allowed_texts (may_close p) Token.end_array k after_value tt (f after_value)
place_texts p (Token.key s) b k h f = (tt, tt)
place_texts p (Token.string s) true k h f = allowed_texts (may_begin p) (Token.key s) k after_key tt (f after_key)
place_texts p (Token.string s) false k h f = allowed_texts (may_begin p) (Token.string s) k after_value h (f after_value)
place_texts p (Token.number s) b k h f = allowed_texts (may_begin p) (Token.number s) k after_value tt (f after_value)
place_texts p (Token.boolean v) b k h f = allowed_texts (may_begin p) (Token.boolean v) k after_value tt (f after_value)
place_texts p Token.null b k h f = allowed_texts (may_begin p) Token.null k after_value tt (f after_value)
place_texts p Token.bad b k h f = (tt, tt)

punctuated_texts : (p : Place) (ls : List Lexeme) → HaveTexts ls → AreTexts (punctuate p ls)
unfolding punctuate
punctuated_texts fresh [] h = tt
punctuated_texts after_value [] h = tt
punctuated_texts after_comma [] h = (tt, tt)
punctuated_texts after_key [] h = (tt, tt)
punctuated_texts fresh (token t ∷ ls) h = place_texts fresh t (begins_colon ls) (λ next. punctuate next ls) h.0 (λ next. punctuated_texts next ls h.1)
punctuated_texts after_value (token t ∷ ls) h = place_texts after_value t (begins_colon ls) (λ next. punctuate next ls) h.0 (λ next. punctuated_texts next ls h.1)
punctuated_texts after_comma (token t ∷ ls) h = place_texts after_comma t (begins_colon ls) (λ next. punctuate next ls) h.0 (λ next. punctuated_texts next ls h.1)
punctuated_texts after_key (token t ∷ ls) h = place_texts after_key t (begins_colon ls) (λ next. punctuate next ls) h.0 (λ next. punctuated_texts next ls h.1)
punctuated_texts fresh (comma ∷ ls) h = (tt, tt)
punctuated_texts after_value (comma ∷ ls) h = punctuated_texts after_comma ls h
punctuated_texts after_comma (comma ∷ ls) h = (tt, tt)
punctuated_texts after_key (comma ∷ ls) h = (tt, tt)
punctuated_texts fresh (colon ∷ ls) h = (tt, tt)
punctuated_texts after_value (colon ∷ ls) h = (tt, tt)
punctuated_texts after_comma (colon ∷ ls) h = (tt, tt)
punctuated_texts after_key (colon ∷ ls) h = punctuated_texts fresh ls h

pub tokens_texts : (text : List ℕ) → IsUtf8 text → AreTexts (tokens text)
tokens_texts text u = punctuated_texts fresh (lex between text) (lexed_texts between text ([], u))
