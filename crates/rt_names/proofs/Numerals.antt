-- Decimal numerals and the numbers that they are read as.
use Rattle.std.proofs.Common.{◌≡◌, ◌≢◌, ℕ, zero, suc, ◌^◌, ◌<◌, false, List, [], ◌∷◌, length, get_or, Some, Result, Ok, Err, refl, sym, ap, subst, ◌∙◌, arith}
use Rattle.std.specs.Prelude.{◌↔◌}
use Rattle.std.specs.Fmt.{decimal}
use Rattle.std.specs.Int.{IsInRange}
use Rattle.std.specs.Str.Parse.{AllDigits, digits_value, ParsesUnsigned}
use Rattle.std.specs.Result.{OkIff, result_ok}
use Rattle.std.proofs.lemmas.Bool.Decides.{nat_tests}
use Rattle.std.proofs.lemmas.Str.Parse.{IsNumeralModel, numerals_by_value, tells_digits, tells_by_index, parse_plain}
use Rattle.std.proofs.lemmas.Fmt.{digits_decimal, decimal-digits_value, parse-decimal, decimal_digit, decimal_nonempty, first_decimal}
use Rattle.rt_names.specs.Parts.{NoUnderscore, is_led}

by_value : IsNumeralModel (AllDigits 10) (digits_value 10)
by_value = numerals_by_value (AllDigits 10) tells_digits

-- each byte of a numeral is a digit
pub digit_at : (n : ℕ) → n < 2 ^ 64 → (i : ℕ) → i < length (decimal n) → IsInRange 48 57 (get_or (decimal n) i 0)
digit_at n small = digits_decimal (numerals_by_value _ tells_by_index) n small

without_from : (bytes : List ℕ) → ((i : ℕ) → i < length bytes → get_or bytes i 0 ≢ 95) → NoUnderscore bytes
without_from [] each = tt
without_from (b ∷ bs) each = (each 0 (omega arith), without_from bs (λ i lt. each (suc i) (omega arith)))

-- so it has no `_`
pub decimal_without : (n : ℕ) → n < 2 ^ 32 → NoUnderscore (decimal n)
decimal_without n small = without_from (decimal n) (λ i lt is. omega (arith, is, digit_at n (omega arith) i lt))

-- it does not begin with a sign, nor with a zero that another byte follows
pub decimal_unled : (n : ℕ) → n < 2 ^ 32 → is_led (decimal n) ≡ false
decimal_unled zero small = rw (decimal_digit 0 (omega arith)) refl
decimal_unled (suc n) small =
    let first : 48 < get_or (decimal (suc n)) 0 0 = first_decimal (suc n) (omega arith) (omega arith) in
    let digit = digit_at (suc n) (omega arith) 0 (decimal_nonempty (suc n) (omega arith)) in
    grind (arith, nat_tests)

unsigned : (text : List ℕ) → is_led text ≡ false → get_or text 0 0 ≢ 43
unsigned text unled sign = grind (arith, nat_tests)

no_zero_first : (text : List ℕ) → is_led text ≡ false → 0 < length text → get_or text 0 0 ≡ 48 → length text ≡ 1
no_zero_first text unled some zero_first = grind (arith, nat_tests)

read_back : {E : Type 0} (text : List ℕ) (r : Result ℕ E) → is_led text ≡ false → OkIff r (AllDigits 10 text × (0 < length text) × (digits_value 10 text < 2 ^ 32)) (digits_value 10 text) → (n : ℕ) → r ≡ Ok n → (n < 2 ^ 32) × (text ≡ decimal n)
read_back text (Ok x) unled reads n is =
    let here : x ≡ digits_value 10 text = reads.1 in
    let value : digits_value 10 text ≡ n = cc in (
      subst (λ v. v < 2 ^ 32) value reads.0.2,
      sym (decimal-digits_value by_value text reads.0.0 reads.0.1 (no_zero_first text unled reads.0.1) (omega (arith, reads.0.2))) ∙ ap decimal value,
    )
read_back text (Err e) unled reads n is = absurd (cc)

-- what `parse` reads of a text that does not begin so, and what it reads it of
pub parsed : {E : Type 0} (text : List ℕ) (r : Result ℕ E) → ParsesUnsigned 32 10 text r → is_led text ≡ false → (n : ℕ) → (r ≡ Ok n) ↔ ((n < 2 ^ 32) × (text ≡ decimal n))
parsed text r parses unled n = (
  read_back text r unled (parse_plain by_value 32 text r parses (unsigned text unled)) n,
  λ is. parse-decimal 32 n text r is.0 (omega (arith, is.0)) is.1 parses,
)

-- the value of a result, if it is one
pub ok_some : {E : Type 0} (r : Result ℕ E) (n : ℕ) → (result_ok r ≡ Some n) ↔ (r ≡ Ok n)
ok_some (Ok x) n = (λ is. cc, λ is. cc)
ok_some (Err e) n = (λ is. absurd (cc), λ is. absurd (cc))
