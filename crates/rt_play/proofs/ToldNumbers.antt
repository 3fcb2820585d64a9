-- The digits of a number end where something else begins.
use Rattle.std.proofs.Common.{◌≡◌, ◌<◌, ◌≤◌, ◌⊎◌, inl, inr, ℕ, zero, suc, ◌+◌, ◌/◌, ◌%◌, ℤ, pos, negsuc, Bool, true, false, cond, eqb, List, [], ◌∷◌, ◌++◌, length, refl, sym, ◌∙◌, ap, subst, arith}
use Rattle.std.specs.Prelude.{decimal}
use Rattle.std.specs.Char.{digit_value}
use Rattle.std.specs.Fmt.{digit_glyph, digits, digits_onto, signed_decimal}
use Rattle.std.specs.Str.Parse.{AllDigits}
use Rattle.std.proofs.lemmas.Bool.{lt-ltb}
use Rattle.std.proofs.lemmas.Str.{digit_value_digit}
use Rattle.std.proofs.lemmas.Str.Parse.{digit_from_value}

pub heads : {X : Type 0} (x y : X) (xs ys : List X) → x ∷ xs ≡ y ∷ ys → x ≡ y
heads x y xs ys e = cc

pub tails : {X : Type 0} (x y : X) (xs ys : List X) → x ∷ xs ≡ y ∷ ys → xs ≡ ys
tails x y xs ys e = cc

-- ---- digits

digit_glyph_is : (d : ℕ) → d < 10 → digit_value (digit_glyph false d) < 10
digit_glyph_is d small =
    let small_digit : digit_value (48 + d) < 10 = omega (arith, small, digit_value_digit (48 + d) (omega (arith, small), omega (arith, small))) in
    subst (λ (c : ℕ). digit_value c < 10) (sym (ap (λ (b : Bool). cond b (48 + d) (87 + d)) (lt-ltb d 10 small))) small_digit

onto_digits : (k n : ℕ) (ds : List ℕ) → AllDigits 10 ds → AllDigits 10 (digits_onto k 10 false n ds)
onto_digits zero n ds all = all
onto_digits (suc k) n ds all =
    let more : AllDigits 10 (digit_glyph false (n % 10) ∷ ds) = (digit_glyph_is (n % 10) (omega arith), all) in
    either (eqb (n / 10) 0) _ _ more (onto_digits k (n / 10) _ more)
  where
    either : (b : Bool) (xs ys : List ℕ) → AllDigits 10 xs → AllDigits 10 ys → AllDigits 10 (cond b xs ys)
    either true xs ys d e = d
    either false xs ys d e = e

onto_some : (k n : ℕ) (ds : List ℕ) → 0 < k + length ds → 0 < length (digits_onto k 10 false n ds)
onto_some zero n ds some = omega (arith, some)
onto_some (suc k) n ds some = either (eqb (n / 10) 0) _ _ (omega arith) (onto_some k (n / 10) (digit_glyph false (n % 10) ∷ ds) (omega arith))
  where
    either : (b : Bool) (xs ys : List ℕ) → 0 < length xs → 0 < length ys → 0 < length (cond b xs ys)
    either true xs ys d e = d
    either false xs ys d e = e

-- of any number the text is digits, one or more
pub numeral : (n : ℕ) → AllDigits 10 (decimal n) × (0 < length (decimal n))
unfolding digits
numeral n = (onto_digits 64 n [] tt, onto_some 64 n [] (omega arith))

-- ---- what stands behind

-- what stands behind is no digit
abbrev pub NoDigit : List ℕ → Type 0
NoDigit [] = Unit {0}
NoDigit (b ∷ bs) = b < 48 ⊎ 57 < b

-- an item is there, and doesn't begin as an array ends
abbrev pub IsItem : List ℕ → Type 0
IsItem [] = ⊥
IsItem (b ∷ bs) = b ≡ 93 → ⊥

pub digit_is : (b : ℕ) (bs : List ℕ) → AllDigits 10 (b ∷ bs) → (48 ≤ b) × (b ≤ 57)
digit_is b bs d = let r = digit_from_value b d.0 in (omega (arith, r), omega (arith, r))

not_both : (b c : ℕ) (cs bs : List ℕ) → AllDigits 10 (c ∷ cs) → NoDigit (b ∷ bs) → b ≡ c → ⊥
not_both b c cs bs d (inl low) e = let r = digit_is c cs d in omega (arith, low, e, r.0)
not_both b c cs bs d (inr high) e = let r = digit_is c cs d in omega (arith, high, e, r.1)

-- digits end where something else begins
same_digits : (ds es xs ys : List ℕ) → AllDigits 10 ds → AllDigits 10 es → NoDigit xs → NoDigit ys → ds ++ xs ≡ es ++ ys → (ds ≡ es) × (xs ≡ ys)
same_digits [] [] xs ys d e m n same = (refl, same)
same_digits [] (c ∷ es) [] ys d e m n same = absurd (cc)
same_digits [] (c ∷ es) (b ∷ xs) ys d e m n same = absurd (not_both b c es xs e m (heads b c xs (es ++ ys) same))
same_digits (c ∷ ds) [] xs [] d e m n same = absurd (cc)
same_digits (c ∷ ds) [] xs (b ∷ ys) d e m n same = absurd (not_both b c ds ys d n (sym (heads c b (ds ++ xs) ys same)))
same_digits (c ∷ ds) (b ∷ es) xs ys d e m n same =
    let rest = same_digits ds es xs ys d.1 e.1 m n (tails c b (ds ++ xs) (es ++ ys) same) in
    (ap (λ x. x ∷ ds) (heads c b (ds ++ xs) (es ++ ys) same) ∙ ap (λ zs. b ∷ zs) rest.0, rest.1)

pub same_decimal : (m n : ℕ) (xs ys : List ℕ) → NoDigit xs → NoDigit ys → decimal m ++ xs ≡ decimal n ++ ys → (decimal m ≡ decimal n) × (xs ≡ ys)
same_decimal m n xs ys p q e = same_digits (decimal m) (decimal n) xs ys (numeral m).0 (numeral n).0 p q e

-- a number begins with nothing but a digit
pub no_decimal : (n c : ℕ) (xs ys : List ℕ) → c < 48 ⊎ 57 < c → decimal n ++ xs ≡ c ∷ ys → ⊥
no_decimal n c xs ys other e = by_digits (decimal n) (numeral n).0 (numeral n).1 e
  where
    by_digits : (ds : List ℕ) → AllDigits 10 ds → 0 < length ds → ds ++ xs ≡ c ∷ ys → ⊥
    by_digits [] d some f = omega (arith, some)
    by_digits (b ∷ ds) d some f = not_both c b ds ys d other (sym (heads b c (ds ++ xs) ys f))

-- ---- numbers with a sign

pub same_signed : (y z : ℤ) (xs ys : List ℕ) → NoDigit xs → NoDigit ys → signed_decimal y ++ xs ≡ signed_decimal z ++ ys
    → (signed_decimal y ≡ signed_decimal z) × (xs ≡ ys)
same_signed (pos m) (pos n) xs ys p q e = same_decimal m n xs ys p q e
same_signed (pos m) (negsuc n) xs ys p q e = absurd (no_decimal m 45 xs (decimal (suc n) ++ ys) (inl (omega arith)) e)
same_signed (negsuc m) (pos n) xs ys p q e = absurd (no_decimal n 45 ys (decimal (suc m) ++ xs) (inl (omega arith)) (sym e))
same_signed (negsuc m) (negsuc n) xs ys p q e =
    let r = same_decimal (suc m) (suc n) xs ys p q (tails 45 45 (decimal (suc m) ++ xs) (decimal (suc n) ++ ys) e) in
    (ap (λ ds. 45 ∷ ds) r.0, r.1)

-- it begins with nothing but a digit or a minus
pub no_signed : (z : ℤ) (c : ℕ) (xs ys : List ℕ) → c < 45 ⊎ 57 < c → signed_decimal z ++ xs ≡ c ∷ ys → ⊥
no_signed (pos n) c xs ys (inl low) e = no_decimal n c xs ys (inl (omega (arith, low))) e
no_signed (pos n) c xs ys (inr high) e = no_decimal n c xs ys (inr high) e
no_signed (negsuc n) c xs ys (inl low) e = omega (arith, low, heads 45 c (decimal (suc n) ++ xs) ys e)
no_signed (negsuc n) c xs ys (inr high) e = omega (arith, high, heads 45 c (decimal (suc n) ++ xs) ys e)

-- it is there, and isn't the end of an array
pub signed_first : (z : ℤ) → IsItem (signed_decimal z)
signed_first (pos n) = by_digits (decimal n) (numeral n).0 (numeral n).1
  where
    by_digits : (ds : List ℕ) → AllDigits 10 ds → 0 < length ds → IsItem ds
    by_digits [] d some = omega (arith, some)
    by_digits (b ∷ ds) d some = λ e. let r = digit_is b ds d in omega (arith, r.1, e)
signed_first (negsuc n) = λ e. omega (arith, e)
