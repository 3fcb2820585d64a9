-- Which bytes the parts of a name have.
use Rattle.std.proofs.Common.{◌≢◌, ℕ, zero, suc, ◌/◌, ◌%◌, ◌<◌, List, [], ◌∷◌, IsOk, Result, Ok, Err, MatchResult, refl, sym, subst, arith}
use Rattle.std.specs.List.{AllByRecursion}
use Rattle.std.specs.Str.{IsAscii, IsUtf8}
use Rattle.std.proofs.lemmas.Str.{IsUtf8-from_ascii}
use Rattle.rt_names.specs.Calendar.{CivilDate}
use Rattle.rt_names.specs.Parts.{NoUnderscore}
use Rattle.rt_names.specs.Minute.{digit, minute_form, IsMinute}

digit_low : (n : ℕ) → digit n < 128
digit_low n = omega arith

digit_is_no_underscore : (n : ℕ) → digit n ≢ 95
digit_is_no_underscore n e = omega arith

ascii_from : (bytes : List ℕ) → AllByRecursion (λ b. b < 128) bytes → IsAscii bytes
ascii_from [] all i = omega arith
ascii_from (b ∷ bs) all zero = all.0
ascii_from (b ∷ bs) all (suc i) = ascii_from bs all.1 i

form_low : (date : CivilDate) (hour minute : ℕ) → AllByRecursion (λ b. b < 128) (minute_form date hour minute)
form_low date hour minute =
    (digit_low (date.year / 1000), (digit_low (date.year / 100), (digit_low (date.year / 10), (digit_low (date.year), (digit_low (date.month / 10), (digit_low (date.month), (digit_low (date.day / 10), (digit_low (date.day), (omega arith, (digit_low (hour / 10), (digit_low (hour), (digit_low (minute / 10), (digit_low (minute), (omega arith, tt))))))))))))))

pub form_without : (date : CivilDate) (hour minute : ℕ) → NoUnderscore (minute_form date hour minute)
form_without date hour minute =
    (digit_is_no_underscore (date.year / 1000), (digit_is_no_underscore (date.year / 100), (digit_is_no_underscore (date.year / 10), (digit_is_no_underscore (date.year), (digit_is_no_underscore (date.month / 10), (digit_is_no_underscore (date.month), (digit_is_no_underscore (date.day / 10), (digit_is_no_underscore (date.day), (λ e. omega arith, (digit_is_no_underscore (hour / 10), (digit_is_no_underscore (hour), (digit_is_no_underscore (minute / 10), (digit_is_no_underscore (minute), (λ e. omega arith, tt))))))))))))))

-- a minute is text
pub minute_is_text : (minute : List ℕ) → IsMinute minute → IsUtf8 minute
minute_is_text minute is =
    let form = minute_form is.of_moment.date (is.millis / 3_600_000 % 24) (is.millis / 60_000 % 60) in
    subst IsUtf8 (sym is.of_moment.form) (IsUtf8-from_ascii form (ascii_from form (form_low is.of_moment.date (is.millis / 3_600_000 % 24) (is.millis / 60_000 % 60))))

pub minute_without : (minute : List ℕ) → IsMinute minute → NoUnderscore minute
minute_without minute is = subst NoUnderscore (sym is.of_moment.form) (form_without is.of_moment.date (is.millis / 3_600_000 % 24) (is.millis / 60_000 % 60))

-- what can be no error is a value
pub ok_from_cases : {T E : Type 0} (r : Result T E) (P : T → Type 0) (Q : E → Type 0) → ((e : E) → Q e → ⊥) → MatchResult r P Q → IsOk r
ok_from_cases (Ok x) P Q never m = refl
ok_from_cases (Err e) P Q never m = absurd (never e m)
