-- A text that a JSON text spells, which is UTF-8, is UTF-8.
use Rattle.std.proofs.Common.{◌≡◌, ℕ, ◌+◌, ◌*◌, ◌<◌, ◌≤◌, ◌==◌, ◌&&◌, ◌||◌, Bool, true, false, cond, List, [], ◌∷◌, ◌++◌, length, drop, get_or, Option, Some, None, option_and_then, IsUtf8, inl, inr, refl, sym, ap, ◌∙◌, subst, arith, append_assoc, append-nil, length-append, take_at, drop_at, get_or-append-add, ltb-true, ltb-false, lt-ltb, le-leb, leb-true, eqb-true, ◌⊎◌, true≢false}
use Rattle.std.specs.Prelude.{IfSome, nat_lt, nat_le}
use Rattle.std.specs.Char.{digit_value, is_digit, encode_utf8}
use Rattle.std.proofs.lemmas.Bool.{and_parts, or_cases, cases_lt}
use Rattle.std.proofs.lemmas.Option.{none-some, same_Some}
use Rattle.std.proofs.lemmas.Str.{IsUtf8-append, IsUtf8-encode, IsUtf8-take, IsUtf8-drop, IsCharBoundary-before_ascii, IsCharBoundary-after_ascii, encode_ascii}
use lib.Utf8.{scalar, low_scalar}
use Rattle.json.specs.Text.{code_unit, short_escape, is_high_surrogate, is_low_surrogate, surrogate_pair, Within, plain, after_backslash, after_u, after_high, prepend, content}

-- ---- an ASCII byte stands between characters

pub at_seam : (front xs : List ℕ) (x : ℕ) → IsUtf8 (front ++ x ∷ xs) → x < 128 → IsUtf8 front × IsUtf8 xs
at_seam front xs x u small =
    let text = front ++ x ∷ xs in
    let n = length front in
    let long = length-append front (x ∷ xs) in
    let zero : n + 0 ≡ n = omega arith in
    let byte : get_or text n 0 ≡ x = ap (λ k. get_or text k 0) (sym zero) ∙ get_or-append-add front (x ∷ xs) 0 0 in
    let within : n < length text = omega (arith, long) in
    let ascii : get_or text n 0 < 128 = omega (arith, byte, small) in
    let front_is = take_at front (x ∷ xs) n refl in
    let more : length (front ++ x ∷ []) ≡ n + 1 = omega (arith, length-append front (x ∷ [])) in
    let rest_is : drop (n + 1) text ≡ xs = ap (drop (n + 1)) (sym (append_assoc front (x ∷ []) xs)) ∙ drop_at (front ++ x ∷ []) xs (n + 1) more in (
      subst IsUtf8 front_is (IsUtf8-take text n u (IsCharBoundary-before_ascii text n within ascii)),
      subst IsUtf8 rest_is (IsUtf8-drop text (n + 1) u (IsCharBoundary-after_ascii text n u within ascii)),
    )

pub behind_ascii : (x : ℕ) (xs : List ℕ) → IsUtf8 (x ∷ xs) → x < 128 → IsUtf8 xs
behind_ascii x xs u small = (at_seam [] xs x u small).1

one_ascii : (c : ℕ) → c < 128 → IsUtf8 (c ∷ [])
one_ascii c small = subst IsUtf8 (encode_ascii c small) (IsUtf8-encode c (low_scalar c (omega arith)))

-- ---- which characters are spelled

pub if_so : {X : Type 0} (P : X → Type 0) (b : Bool) (x y : X) → (b ≡ true → P x) → (b ≡ false → P y) → P (cond b x y)
if_so P true x y f g = f refl
if_so P false x y f g = g refl

if_some : {X Y : Type 0} (P : Option Y → Type 0) (f : X → Option Y) (o : Option X) → P None → ((x : X) → o ≡ Some x → P (f x)) → P (option_and_then f o)
if_some P f None none h = none
if_some P f (Some x) none h = h x refl

not_both : (a b : Bool) → (a && b) ≡ false → a ≡ true → b ≡ false
not_both true b e t = e
not_both false b e t = absurd (true≢false (sym t))

or_last : (b c : Bool) → c ≡ true → cond b true c ≡ true
or_last true c e = refl
or_last false c e = e

high_scalar : (c : ℕ) → 57344 ≤ c → c < 1114112 → scalar c ≡ true
high_scalar c low high = or_last (nat_lt c 55296) (nat_le 57344 c && nat_lt c 1114112) ((λ i. le-leb 57344 c low i && nat_lt c 1114112) ∙ lt-ltb c 1114112 high)

unit_scalar : (u : ℕ) → u < 65536 → is_high_surrogate u ≡ false → is_low_surrogate u ≡ false → scalar u ≡ true
unit_scalar u small high low = by (cases_lt u 55296)
  where
    by_low : 55296 ≤ u → scalar u ≡ true
    by_low from =
        let past = ltb-false u 56320 (not_both (nat_le 55296 u) (nat_lt u 56320) high (le-leb 55296 u from)) in
        let behind = ltb-false u 57344 (not_both (nat_le 56320 u) (nat_lt u 57344) low (le-leb 56320 u past)) in
        high_scalar u behind (omega arith)

    by : (u < 55296) ⊎ (55296 ≤ u) → scalar u ≡ true
    by (inl below) = low_scalar u below
    by (inr from) = by_low from

pair_scalar : (h l : ℕ) → is_high_surrogate h ≡ true → is_low_surrogate l ≡ true → scalar (surrogate_pair h l) ≡ true
pair_scalar h l high low =
    let a = and_parts (nat_le 55296 h) (nat_lt h 56320) high in
    let b = and_parts (nat_le 56320 l) (nat_lt l 57344) low in
    let h0 = leb-true 55296 h a.0 in
    let h1 = ltb-true h 56320 a.1 in
    let l0 = leb-true 56320 l b.0 in
    let l1 = ltb-true l 57344 b.1 in
    high_scalar (surrogate_pair h l) (omega arith) (omega arith)

digit_small : (x : ℕ) → is_digit x 16 ≡ true → (x < 128) × (digit_value x < 16)
digit_small x e =
    let v = ltb-true (digit_value x) 16 e in
    (grind (arith, v), v)

pub record IsUnit (a b c d u : ℕ) : Type 0 where
  pub first : a < 128
  pub second : b < 128
  pub third : c < 128
  pub fourth : d < 128
  pub small : u < 65536

unit_is : (a b c d u : ℕ) → code_unit a b c d ≡ Some u → IsUnit a b c d u
unfolding code_unit
unit_is a b c d u e = by (is_digit a 16) (is_digit b 16) (is_digit c 16) (is_digit d 16) refl refl refl refl e
  where
    value : ℕ
    value = digit_value a * 4096 + digit_value b * 256 + digit_value c * 16 + digit_value d

    by : (p q r s : Bool) → is_digit a 16 ≡ p → is_digit b 16 ≡ q → is_digit c 16 ≡ r → is_digit d 16 ≡ s → cond (p && q && r && s) (Some value) None ≡ Some u → IsUnit a b c d u
    by true true true true ea eb ec ed h =
        let fa = digit_small a ea in
        let fb = digit_small b eb in
        let fc = digit_small c ec in
        let fd = digit_small d ed in
        let is = same_Some value u h in
        record { first = fa.0; second = fb.0; third = fc.0; fourth = fd.0; small = omega (arith, fa.1, fb.1, fc.1, fd.1, is) }
    by true true true false ea eb ec ed h = absurd (none-some u h)
    by true true false s ea eb ec ed h = absurd (none-some u h)
    by true false r s ea eb ec ed h = absurd (none-some u h)
    by false q r s ea eb ec ed h = absurd (none-some u h)

abbrev AreSmall : ℕ → Option ℕ → Type 0
AreSmall x o = IfSome o (λ c. (x < 128) × (c < 128))

escaped_small : (x : ℕ) → AreSmall x (short_escape x)
unfolding short_escape
escaped_small x =
    if_so (AreSmall x) ((x == 34) || (x == 92) || (x == 47)) _ _ (λ e. let small = own (or_cases ((x == 34) || (x == 92)) (x == 47) e) in (small, small))
    (λ _. if_so (AreSmall x) (x == 98) _ _ (λ e. let is = eqb-true x 98 e in (omega arith, omega arith))
    (λ _. if_so (AreSmall x) (x == 102) _ _ (λ e. let is = eqb-true x 102 e in (omega arith, omega arith))
    (λ _. if_so (AreSmall x) (x == 110) _ _ (λ e. let is = eqb-true x 110 e in (omega arith, omega arith))
    (λ _. if_so (AreSmall x) (x == 114) _ _ (λ e. let is = eqb-true x 114 e in (omega arith, omega arith))
    (λ _. if_so (AreSmall x) (x == 116) _ _ (λ e. let is = eqb-true x 116 e in (omega arith, omega arith)) (λ _. tt))))))
  where
    of_two : ((x == 34) ≡ true) ⊎ ((x == 92) ≡ true) → x < 128
    of_two (inl e) = let is = eqb-true x 34 e in omega arith
    of_two (inr e) = let is = eqb-true x 92 e in omega arith

    own : (((x == 34) || (x == 92)) ≡ true) ⊎ ((x == 47) ≡ true) → x < 128
    own (inl e) = of_two (or_cases (x == 34) (x == 92) e)
    own (inr e) = let is = eqb-true x 47 e in omega arith

-- ---- the text of a string

-- what is read goes on where bytes that were read before end
abbrev Continues : List ℕ → Option (List ℕ) → Type 0
Continues front o = IfSome o (λ s. IsUtf8 (front ++ s))

prepended : (front a : List ℕ) (o : Option (List ℕ)) → Continues (front ++ a) o → Continues front (prepend a o)
prepended front a None h = tt
prepended front a (Some s) h = subst IsUtf8 (append_assoc front a s) h

-- between characters, or within one of which the front has the first bytes
abbrev IsReady : Within → List ℕ → List ℕ → Type 0
IsReady plain front xs = IsUtf8 (front ++ xs)
IsReady after_backslash front xs = IsUtf8 front × IsUtf8 xs
IsReady after_u front xs = IsUtf8 front × IsUtf8 xs
IsReady (after_high h) front xs = IsUtf8 front × IsUtf8 xs × (is_high_surrogate h ≡ true)

behind_four : (a b c d u : ℕ) (xs : List ℕ) → IsUtf8 (a ∷ b ∷ c ∷ d ∷ xs) → IsUnit a b c d u → IsUtf8 xs
behind_four a b c d u xs utf8 k =
    behind_ascii d xs (behind_ascii c (d ∷ xs) (behind_ascii b (c ∷ d ∷ xs) (behind_ascii a (b ∷ c ∷ d ∷ xs) utf8 k.first) k.second) k.third) k.fourth

with_char : (front xs : List ℕ) (c : ℕ) → IsUtf8 front → IsUtf8 xs → scalar c ≡ true → IsUtf8 ((front ++ encode_utf8 c) ++ xs)
with_char front xs c f u is = IsUtf8-append (front ++ encode_utf8 c) xs (IsUtf8-append front (encode_utf8 c) f (IsUtf8-encode c is)) u

with_byte : (front xs : List ℕ) (c : ℕ) → IsUtf8 front → IsUtf8 xs → c < 128 → IsUtf8 ((front ++ c ∷ []) ++ xs)
with_byte front xs c f u small = IsUtf8-append (front ++ c ∷ []) xs (IsUtf8-append front (c ∷ []) f (one_ascii c small)) u

content_goes_on : (w : Within) (front xs : List ℕ) → IsReady w front xs → Continues front (content w xs)
unfolding content
content_goes_on plain front [] k = tt
content_goes_on plain front (x ∷ xs) k =
    if_so (Continues front) (x == 34) _ _
    (λ e. let is = eqb-true x 34 e in subst IsUtf8 (sym (append-nil front)) (at_seam front xs x k (omega arith)).0)
    (λ _. if_so (Continues front) (x == 92) _ _ (λ e. let is = eqb-true x 92 e in content_goes_on after_backslash front xs (at_seam front xs x k (omega arith)))
    (λ _. if_so (Continues front) (nat_lt x 32) _ _ (λ _. tt)
    (λ _. prepended front (x ∷ []) (content plain xs) (content_goes_on plain (front ++ x ∷ []) xs (subst IsUtf8 (sym (append_assoc front (x ∷ []) xs)) k)))))
content_goes_on after_backslash front [] k = tt
content_goes_on after_backslash front (x ∷ xs) (f, u) =
    if_so (Continues front) (x == 117) _ _ (λ e. let is = eqb-true x 117 e in content_goes_on after_u front xs (f, behind_ascii x xs u (omega arith)))
    (λ _. if_some (Continues front) _ (short_escape x) tt
    (λ c is.
    let small = subst (AreSmall x) is (escaped_small x) in
    prepended front (c ∷ []) (content plain xs) (content_goes_on plain (front ++ c ∷ []) xs (with_byte front xs c f (behind_ascii x xs u small.0) small.1))))
content_goes_on after_u front [] k = tt
content_goes_on after_u front (a ∷ []) k = tt
content_goes_on after_u front (a ∷ b ∷ []) k = tt
content_goes_on after_u front (a ∷ b ∷ c ∷ []) k = tt
content_goes_on after_u front (a ∷ b ∷ c ∷ d ∷ xs) (f, utf8) =
    if_some (Continues front) _ (code_unit a b c d) tt
    (λ u is.
    let unit = unit_is a b c d u is in
    let rest = behind_four a b c d u xs utf8 unit in
    if_so (Continues front) (is_high_surrogate u) _ _ (λ high. content_goes_on (after_high u) front xs (f, rest, high))
    (λ high. if_so (Continues front) (is_low_surrogate u) _ _ (λ _. tt)
    (λ low. prepended front (encode_utf8 u) (content plain xs)
    (content_goes_on plain (front ++ encode_utf8 u) xs (with_char front xs u f rest (unit_scalar u unit.small high low))))))
content_goes_on (after_high h) front [] k = tt
content_goes_on (after_high h) front (s ∷ []) k = tt
content_goes_on (after_high h) front (s ∷ u ∷ []) k = tt
content_goes_on (after_high h) front (s ∷ u ∷ a ∷ []) k = tt
content_goes_on (after_high h) front (s ∷ u ∷ a ∷ b ∷ []) k = tt
content_goes_on (after_high h) front (s ∷ u ∷ a ∷ b ∷ c ∷ []) k = tt
content_goes_on (after_high h) front (s ∷ u ∷ a ∷ b ∷ c ∷ d ∷ xs) (f, utf8, high) =
    if_so (Continues front) ((s == 92) && (u == 117)) _ _
    (λ both.
    let is = and_parts (s == 92) (u == 117) both in
    let slash = eqb-true s 92 is.0 in
    let letter = eqb-true u 117 is.1 in
    let four = behind_ascii u (a ∷ b ∷ c ∷ d ∷ xs) (behind_ascii s (u ∷ a ∷ b ∷ c ∷ d ∷ xs) utf8 (omega arith)) (omega arith) in
    if_some (Continues front) _ (code_unit a b c d) tt
    (λ l is.
    let rest = behind_four a b c d l xs four (unit_is a b c d l is) in
    if_so (Continues front) (is_low_surrogate l) _ _
    (λ low. prepended front (encode_utf8 (surrogate_pair h l)) (content plain xs)
    (content_goes_on plain (front ++ encode_utf8 (surrogate_pair h l)) xs (with_char front xs (surrogate_pair h l) f rest (pair_scalar h l high low)))) (λ _. tt)))
    (λ _. tt)

-- the text of a string that begins there
pub content_utf8 : (xs : List ℕ) → IsUtf8 xs → IfSome (content plain xs) IsUtf8
content_utf8 xs u = content_goes_on plain [] xs u
