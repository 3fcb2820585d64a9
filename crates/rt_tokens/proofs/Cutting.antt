-- Where tokens begin and end.
use Rattle.std.proofs.Common.{◌≡◌, ℕ, zero, suc, ◌+◌, ◌-◌, ◌<◌, ◌≤◌, ◌==◌, ◌&&◌, Bool, true, false, List, [], ◌∷◌, ◌++◌, length, take, drop, get_or, slice_index, slice_range, nat_le, Option, Some, None, IfSome, if◌then◌else◌, refl, ap, sym, ◌∙◌, subst, append_assoc, length-drop, add-one, arith, eq-eqb}
use Rattle.std.proofs.lemmas.Bool.{le-leb}
use Rattle.std.proofs.lemmas.Bool.Decides.{nat_tests}
use Rattle.std.proofs.lemmas.List.{get_or-drop, drop-drop}
use Rattle.std.proofs.lemmas.List.Sums.{prefix_len_passes}
use Rattle.std.proofs.lemmas.Str.{IsCharBoundary-before_ascii, IsCharBoundary-after_ascii}
use Rattle.std.proofs.Math.Seq.{drop-cons, take-suc}
use Rattle.std.specs.Char.{is_ascii_digit}
use Rattle.std.specs.List.{prefix_len}
use Rattle.std.specs.Str.{IsUtf8, IsCharBoundary}
use Rattle.rt_tokens.specs.Tokens.{is_blank, is_name_start, is_name_byte, is_quotable, token, lexeme_of, named, quoted, behind, content, quoted_text, sign, first_token, begin, tokens_at}
use Rattle.rt_tokens.specs.declared.content.Content.{Content}
use Rattle.rt_tokens.specs.declared.lexeme.Lexeme.{Lexeme}
use Rattle.rt_tokens.specs.declared.lexeme.Lexeme.TheVariants.{Name}
use Rattle.rt_tokens.specs.declared.lexer.Lexed.{Lexed}

-- behind an ASCII byte a text may be cut
pub begins_after : (text : List ℕ) (at b : ℕ) → IsUtf8 text → 0 < at → at ≤ length text → get_or text (at - 1) 0 ≡ b → b < 128 → IsCharBoundary text at
begins_after text at b utf8 some within is ascii =
    let same : at - 1 + 1 ≡ at = omega (arith, some) in
    subst (IsCharBoundary text) same (IsCharBoundary-after_ascii text (at - 1) utf8 (omega (arith, some, within)) (omega (arith, is, ascii)))

-- Names

name_byte_ascii : (b : ℕ) → is_name_byte b ≡ true → b < 128
name_byte_ascii b h = grind (arith, nat_tests, h)

name_start_ascii : (b : ℕ) → is_name_start b ≡ true → b < 128
name_start_ascii b h = grind (arith, nat_tests, h)

pub name_ends : (text : List ℕ) (at n : ℕ) → IsUtf8 text → at < length text → at + n ≤ length text → is_name_start (get_or text at 0) ≡ true → n ≡ prefix_len is_name_byte (drop at text) → IsCharBoundary text (at + n)
name_ends text at zero utf8 within fits first is =
    let same : at ≡ at + zero = omega arith in
    subst (IsCharBoundary text) same (IsCharBoundary-before_ascii text at within (name_start_ascii (get_or text at 0) first))
name_ends text at (suc k) utf8 within fits first is =
    let passes : is_name_byte (get_or (drop at text) k 0) ≡ true = prefix_len_passes is_name_byte (drop at text) k 0 (omega (arith, is)) in
    let here : get_or (drop at text) k 0 ≡ get_or text (at + k) 0 = get_or-drop at text k 0 in
    let ascii : get_or (drop at text) k 0 < 128 = name_byte_ascii (get_or (drop at text) k 0) passes in
    let same : at + k + 1 ≡ at + suc k = omega arith in
    subst (IsCharBoundary text) same (IsCharBoundary-after_ascii text (at + k) utf8 (omega (arith, fits)) (omega (arith, here, ascii)))

pub cut_part : (text : List ℕ) (at n : ℕ) → slice_range text at (at + n) ≡ take n (drop at text)
cut_part text at n = let same : at + n - at ≡ n = omega arith in ap (λ k. take k (drop at text)) same

pub named_is : (bytes name : List ℕ) (n : ℕ) (l : Lexeme) → n ≡ prefix_len is_name_byte bytes → name ≡ take n bytes → l ≡ lexeme_of name → record { lexeme = l; length = n } ≡ named bytes
named_is bytes name n l e f g =
    ap (λ m. token m l) e ∙ ap (token (prefix_len is_name_byte bytes)) (g ∙ ap lexeme_of (f ∙ ap (λ m. take m bytes) e))

-- Quoted names

both_true : (a b : Bool) → a ≡ true → b ≡ true → (a && b) ≡ true
both_true true b e f = f
both_true false b e f = cc

pub quoted_is : (bytes name : List ℕ) (n : ℕ) → n ≡ prefix_len is_quotable bytes → get_or bytes n 0 ≡ 34 → 1 ≤ n → n ≤ 128 → name ≡ take n bytes → Some (record { lexeme = Name name; length = n + 2 }) ≡ quoted bytes
quoted_is bytes name n is quote some few same =
    let m = prefix_len is_quotable bytes in
    let q : (slice_index bytes m == 34) ≡ true = eq-eqb (get_or bytes m 0) 34 (ap (λ k. get_or bytes k 0) (sym is) ∙ quote) in
    let a : nat_le 1 m ≡ true = le-leb 1 m (omega (arith, is, some)) in
    let b : nat_le m 128 ≡ true = le-leb m 128 (omega (arith, is, few)) in
    let all : (slice_index bytes m == 34 && nat_le 1 m && nat_le m 128) ≡ true = both_true (slice_index bytes m == 34 && nat_le 1 m) (nat_le m 128) (both_true (slice_index bytes m == 34) (nat_le 1 m) q a) b in
    ap (λ k. Some (token (n + 2) (Name k))) same ∙ ap (λ k. Some (token (k + 2) (Name (take k bytes)))) is
    ∙ ap (λ t. if t then Some (token (m + 2) (Name (take m bytes))) else None) (sym all)

-- The first token

begins_with : (text : List ℕ) (at : ℕ) → at < length text → drop at text ≡ get_or text at 0 ∷ drop (at + 1) text
begins_with text at within = drop-cons text at 0 within ∙ ap (λ k. get_or text at 0 ∷ drop k text) (sym (add-one at))

pub first_quoted : (text : List ℕ) (at : ℕ) → at < length text → get_or text at 0 ≡ 34 → quoted (drop (at + 1) text) ≡ first_token (drop at text)
first_quoted text at within is = sym (ap first_token (begins_with text at within) ∙ ap (λ b. first_token (b ∷ drop (at + 1) text)) is)

pub first_text : (text : List ℕ) (at : ℕ) → at < length text → get_or text at 0 ≡ 39 → quoted_text (drop (at + 1) text) ≡ first_token (drop at text)
first_text text at within is = sym (ap first_token (begins_with text at within) ∙ ap (λ b. first_token (b ∷ drop (at + 1) text)) is)

pub cond_false : {A : Type 0} (b : Bool) (x y : A) → b ≡ false → (if b then x else y) ≡ y
cond_false b x y h = ap (λ c. if c then x else y) h

not_equal : (a b : ℕ) → (a ≡ b → ⊥) → (a == b) ≡ false
not_equal a b h = grind (arith, nat_tests, h)

first_is_sign : (b : ℕ) (bytes : List ℕ) → is_name_start b ≡ false → is_ascii_digit b ≡ false → (b ≡ 34 → ⊥) → (b ≡ 39 → ⊥) → first_token (b ∷ bytes) ≡ sign b (get_or bytes 0 0)
first_is_sign b bytes name digit quote text =
    cond_false (is_name_start b) _ _ name ∙ cond_false (is_ascii_digit b) _ _ digit ∙ cond_false (b == 34) _ _ (not_equal b 34 quote) ∙ cond_false (b == 39) _ _ (not_equal b 39 text)

pub first_sign : (bytes : List ℕ) → 0 < length bytes → is_name_start (get_or bytes 0 0) ≡ false → is_ascii_digit (get_or bytes 0 0) ≡ false → (get_or bytes 0 0 ≡ 34 → ⊥) → (get_or bytes 0 0 ≡ 39 → ⊥) →
    sign (get_or bytes 0 0) (get_or bytes 1 0) ≡ first_token bytes
first_sign [] some name digit quote text = absurd (omega (arith, some))
first_sign (b ∷ []) some name digit quote text = sym (first_is_sign b [] name digit quote text)
first_sign (b ∷ c ∷ bytes) some name digit quote text = sym (first_is_sign b (c ∷ bytes) name digit quote text)

length_within : (n next at size : ℕ) → at < size → (0 < next → at + 1 < size) → 0 < n → n ≤ 2 → (n ≡ 2 → 0 < next) → at + n ≤ size
length_within zero next at size within more some few two = absurd (omega (arith, some))
length_within (suc zero) next at size within more some few two = omega (arith, within)
length_within (suc (suc n)) next at size within more some few two =
    let same : suc (suc n) ≡ 2 = omega (arith, few) in
    let room : at + 1 < size = more (two same) in
    omega (arith, room, few)

pub sign_within : (found : Option Lexed) (next at size : ℕ) → at < size → (0 < next → at + 1 < size) → IfSome found (λ l. (0 < l.length) × (l.length ≤ 2) × (l.length ≡ 2 → 0 < next)) →
    IfSome found (λ l. (0 < l.length) × (at + l.length ≤ size))
sign_within None next at size within more h = tt
sign_within (Some l) next at size within more h = (h.0, length_within l.length next at size within more h.0 h.1 h.2)

-- All tokens

skipped : (k byte : ℕ) (bytes : List ℕ) → tokens_at k byte bytes ≡ tokens_at 0 (byte + k) (drop k bytes)
skipped zero byte bytes = let same : byte ≡ byte + zero = omega arith in ap (λ b. tokens_at 0 b bytes) same
skipped (suc k) byte [] = refl
skipped (suc k) byte (b ∷ bytes) = let same : suc byte + k ≡ byte + suc k = omega arith in skipped k (suc byte) bytes ∙ ap (λ n. tokens_at 0 n (drop k bytes)) same

pub token_read : (text : List ℕ) (at : ℕ) (found : Lexed) → at < length text → is_blank (get_or text at 0) ≡ false → first_token (drop at text) ≡ Some found → 0 < found.length →
    tokens_at 0 at (drop at text) ≡ record { byte = at; lexeme = found.lexeme } ∷ tokens_at 0 (at + found.length) (drop (at + found.length) text)
token_read text at found within blank is some =
    let b = get_or text at 0 in
    let rest = drop (at + 1) text in
    let split : drop at text ≡ b ∷ rest = begins_with text at within in
    let first : first_token (b ∷ rest) ≡ Some found = ap first_token (sym split) ∙ is in
    let sum : suc at + (found.length - 1) ≡ at + found.length = omega (arith, some) in
    let more : at + 1 + (found.length - 1) ≡ at + found.length = omega (arith, some) in
    let left : drop (found.length - 1) rest ≡ drop (at + found.length) text = drop-drop (found.length - 1) (at + 1) text ∙ ap (λ k. drop k text) more in
    ap (tokens_at 0 at) split ∙ cond_false (is_blank b) _ _ blank ∙ ap (λ f. begin at f (λ skip. tokens_at skip (suc at) rest)) first
    ∙ ap (λ ts. record { byte = at; lexeme = found.lexeme } ∷ ts) (skipped (found.length - 1) (suc at) rest ∙ ap (λ n. tokens_at 0 n (drop (found.length - 1) rest)) sum ∙ ap (tokens_at 0 (at + found.length)) left)

-- Texts in quotes

behind_behind : (xs ys : List ℕ) (m n : ℕ) (c : Option Content) → behind xs m (behind ys n c) ≡ behind (xs ++ ys) (m + n) c
behind_behind xs ys m n None = refl
behind_behind xs ys m n (Some c) =
    let sizes : m + (n + c.size) ≡ m + n + c.size = omega arith in
    ap (λ t. Some (record { text = t; size = m + (n + c.size) })) (sym (append_assoc xs ys c.text)) ∙ ap (λ k. Some (record { text = (xs ++ ys) ++ c.text; size = k })) sizes

pub content_other : (b : ℕ) (bytes : List ℕ) → (b ≡ 39 → ⊥) → content (b ∷ bytes) ≡ behind (b ∷ []) 1 (content bytes)
content_other b [] h = cond_false (b == 39) _ _ (not_equal b 39 h)
content_other b (c ∷ bytes) h = cond_false (b == 39) _ _ (not_equal b 39 h)

pub content_goes_on : (text front : List ℕ) (start from at : ℕ) → start ≤ at → from ≤ at → at < length text → (get_or text at 0 ≡ 39 → ⊥) →
    behind (front ++ take (at - from) (drop from text)) (at - start) (content (drop at text)) ≡ behind (front ++ take (at + 1 - from) (drop from text)) (at + 1 - start) (content (drop (at + 1) text))
content_goes_on text front start from at begun after within other =
    let b = get_or text at 0 in
    let piece = take (at - from) (drop from text) in
    let size : at - start + 1 ≡ at + 1 - start = omega (arith, begun) in
    let next : suc (at - from) ≡ at + 1 - from = omega (arith, after) in
    let place : from + (at - from) ≡ at = omega (arith, after) in
    let here : get_or (drop from text) (at - from) 0 ≡ b = get_or-drop from text (at - from) 0 ∙ ap (λ k. get_or text k 0) place in
    let room : at - from < length (drop from text) = simp length-drop (omega (arith, after, within)) in
    let grown : piece ++ b ∷ [] ≡ take (at + 1 - from) (drop from text) =
    ap (λ x. piece ++ x ∷ []) (sym here) ∙ sym (take-suc (drop from text) (at - from) 0 room) ∙ ap (λ k. take k (drop from text)) next in
    ap (behind (front ++ piece) (at - start)) (ap content (begins_with text at within) ∙ content_other b (drop (at + 1) text) other)
    ∙ behind_behind (front ++ piece) (b ∷ []) (at - start) 1 (content (drop (at + 1) text))
    ∙ ap (λ k. behind ((front ++ piece) ++ b ∷ []) k (content (drop (at + 1) text))) size
    ∙ ap (λ xs. behind xs (at + 1 - start) (content (drop (at + 1) text))) (append_assoc front piece (b ∷ []) ∙ ap (λ xs. front ++ xs) grown)

pub content_pairs : (text front : List ℕ) (start at : ℕ) → start ≤ at → at + 1 < length text → get_or text at 0 ≡ 39 → get_or text (at + 1) 0 ≡ 39 →
    behind front (at - start) (content (drop at text)) ≡ behind (front ++ take (at + 2 - (at + 1)) (drop (at + 1) text)) (at + 2 - start) (content (drop (at + 2) text))
content_pairs text front start at begun within quote again =
    let rest = drop (at + 2) text in
    let second : drop (at + 1) text ≡ 39 ∷ rest =
    begins_with text (at + 1) within ∙ ap (λ b. b ∷ drop (at + 1 + 1) text) again ∙ ap (λ k. 39 ∷ drop k text) (omega arith) in
    let both : drop at text ≡ 39 ∷ 39 ∷ rest = begins_with text at (omega (arith, within)) ∙ ap (λ b. b ∷ drop (at + 1) text) quote ∙ ap (λ bs. 39 ∷ bs) second in
    let one : at + 2 - (at + 1) ≡ 1 = omega arith in
    let size : at - start + 2 ≡ at + 2 - start = omega (arith, begun) in
    let piece : take (at + 2 - (at + 1)) (drop (at + 1) text) ≡ 39 ∷ [] = ap (λ k. take k (drop (at + 1) text)) one ∙ ap (take 1) second in
    ap (behind front (at - start)) (ap content both)
    ∙ behind_behind front (39 ∷ []) (at - start) 2 (content rest)
    ∙ ap (λ k. behind (front ++ 39 ∷ []) k (content rest)) size
    ∙ ap (λ xs. behind (front ++ xs) (at + 2 - start) (content rest)) (sym piece)
