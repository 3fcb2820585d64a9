-- What stands in front of a text, and behind its first and its last words.
use Rattle.std.proofs.Common.{◌≡◌, ◌<◌, ◌==◌, ◌&&◌, ℕ, Bool, true, false, cond, nat_lt, List, [], ◌∷◌, ◌++◌, length, decimal, Option, Some, None, if◌then◌else◌, refl, sym, ◌∙◌, ap, arith, lt-ltb, eq-eqb, ne_eqb}
use Rattle.std.proofs.lemmas.Bool.{false≢true}
use Rattle.std.proofs.lemmas.Fmt.{decimal_injective}
use Rattle.std.specs.Str.Parse.{AllDigits}
use Rattle.rt_play.proofs.ToldNumbers.{NoDigit, digit_is, numeral, same_decimal}
use Rattle.rt_play.specs.AnswerTexts.{IsWord}

-- ---- a number

pub same_number : (m n : ℕ) (xs ys : List ℕ) → IsWord m → IsWord n → NoDigit xs → NoDigit ys → decimal m ++ xs ≡ decimal n ++ ys → (m ≡ n) × (xs ≡ ys)
same_number m n xs ys v w p q e = let r = same_decimal m n xs ys p q e in (decimal_injective m n v w r.0, r.1)

abbrev pub is_digit : ℕ → Bool
is_digit b = nat_lt 47 b && nat_lt b 58

digit_told : (c : ℕ) (cs : List ℕ) → AllDigits 10 (c ∷ cs) → is_digit c ≡ true
digit_told c cs d =
    let r = digit_is c cs d in
    ap (λ (b : Bool). b && nat_lt c 58) (lt-ltb 47 c (omega (arith, r.0))) ∙ lt-ltb c 58 (omega (arith, r.1))

-- another byte isn't this digit
pub other_byte : (c b : ℕ) (cs : List ℕ) → is_digit b ≡ false → AllDigits 10 (c ∷ cs) → (c == b) ≡ false
other_byte c b cs unlike d = ne_eqb c b (λ same. false≢true (sym unlike ∙ ap is_digit (sym same) ∙ digit_told c cs d))

-- ---- in front

-- a text begins so
abbrev pub begins : List ℕ → List ℕ → Bool
begins [] xs = true
begins (p ∷ ps) [] = false
begins (p ∷ ps) (x ∷ xs) = if x == p then begins ps xs else false

-- what stands behind that beginning
abbrev pub strip : List ℕ → List ℕ → Option (List ℕ)
strip [] xs = Some xs
strip (p ∷ ps) [] = None
strip (p ∷ ps) (x ∷ xs) = if x == p then strip ps xs else None

pub stripped : (ps xs : List ℕ) → strip ps (ps ++ xs) ≡ Some xs
stripped [] xs = refl
stripped (p ∷ ps) xs = ap (λ (b : Bool). cond b (strip ps (ps ++ xs)) None) (eq-eqb p p refl) ∙ stripped ps xs

-- a number begins with a digit
pub number_begins : (p : ℕ) (ps : List ℕ) (n : ℕ) (xs : List ℕ) → is_digit p ≡ false → begins (p ∷ ps) (decimal n ++ xs) ≡ false
number_begins p ps n xs unlike = by_digits (decimal n) (numeral n).0 (numeral n).1
  where
    by_digits : (ds : List ℕ) → AllDigits 10 ds → 0 < length ds → begins (p ∷ ps) (ds ++ xs) ≡ false
    by_digits [] d some = absurd (omega (arith, some))
    by_digits (c ∷ cs) d some = ap (λ (b : Bool). cond b (begins ps (cs ++ xs)) false) (other_byte c p cs unlike d)

abbrev pub starts_digit : List ℕ → Bool
starts_digit [] = false
starts_digit (x ∷ xs) = is_digit x

pub number_starts : (n : ℕ) (xs : List ℕ) → starts_digit (decimal n ++ xs) ≡ true
number_starts n xs = by_digits (decimal n) (numeral n).0 (numeral n).1
  where
    by_digits : (ds : List ℕ) → AllDigits 10 ds → 0 < length ds → starts_digit (ds ++ xs) ≡ true
    by_digits [] d some = absurd (omega (arith, some))
    by_digits (c ∷ cs) d some = digit_told c cs d

-- ---- behind

-- behind the digits in front
abbrev pub past_digits : List ℕ → List ℕ
past_digits [] = []
past_digits (x ∷ xs) = if is_digit x then past_digits xs else x ∷ xs

pub past_number : (n : ℕ) (xs : List ℕ) → past_digits (decimal n ++ xs) ≡ past_digits xs
past_number n xs = by_digits (decimal n) (numeral n).0
  where
    by_digits : (ds : List ℕ) → AllDigits 10 ds → past_digits (ds ++ xs) ≡ past_digits xs
    by_digits [] d = refl
    by_digits (c ∷ cs) d = ap (λ (b : Bool). cond b (past_digits (cs ++ xs)) (c ∷ (cs ++ xs))) (digit_told c cs d) ∙ by_digits cs d.1

-- behind the first such byte
abbrev pub past : ℕ → List ℕ → List ℕ
past b [] = []
past b (x ∷ xs) = if x == b then xs else past b xs

pub past_no_digit : (b n : ℕ) (xs : List ℕ) → is_digit b ≡ false → past b (decimal n ++ xs) ≡ past b xs
past_no_digit b n xs unlike = by_digits (decimal n) (numeral n).0
  where
    by_digits : (ds : List ℕ) → AllDigits 10 ds → past b (ds ++ xs) ≡ past b xs
    by_digits [] d = refl
    by_digits (c ∷ cs) d = ap (λ (t : Bool). cond t (cs ++ xs) (past b (cs ++ xs))) (other_byte c b cs unlike d) ∙ by_digits cs d.1

-- behind the last such byte, or this
abbrev pub past_last : ℕ → List ℕ → List ℕ → List ℕ
past_last b kept [] = kept
past_last b kept (x ∷ xs) = if x == b then past_last b xs xs else past_last b kept xs

pub past_last_one : (b : ℕ) (kept xs ys : List ℕ) → past_last b kept (xs ++ b ∷ ys) ≡ past_last b ys ys
past_last_one b kept [] ys = ap (λ (t : Bool). cond t (past_last b ys ys) (past_last b kept ys)) (eq-eqb b b refl)
past_last_one b kept (x ∷ xs) ys = either (x == b) (past_last_one b (xs ++ b ∷ ys) xs ys) (past_last_one b kept xs ys)
  where
    either : (t : Bool) → past_last b (xs ++ b ∷ ys) (xs ++ b ∷ ys) ≡ past_last b ys ys → past_last b kept (xs ++ b ∷ ys) ≡ past_last b ys ys
        → cond t (past_last b (xs ++ b ∷ ys) (xs ++ b ∷ ys)) (past_last b kept (xs ++ b ∷ ys)) ≡ past_last b ys ys
    either true p q = p
    either false p q = q
