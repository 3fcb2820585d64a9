use Rattle.std.proofs.Common.{◌≡◌, ℕ, ◌+◌, ◌-◌, ◌*◌, ◌<◌, ◌≤◌, Bool, true, false, List, [], ◌∷◌, length, drop, get_or, refl, sym, ◌∙◌, arith}
use Rattle.std.specs.Char.{is_ascii_digit, digit_value}
use Rattle.std.specs.List.{list_all}
use Rattle.std.specs.Str.Parse.{digits_value, digits_value_after}
use Rattle.std.proofs.lemmas.Bool.Decides.{nat_tests}
use Rattle.std.proofs.lemmas.List.{at_drop_more}
use Rattle.std.proofs.lemmas.List.Folds.{list_all_at}
use Rattle.std.proofs.lemmas.Bool.{false≢true}

-- more digits never make a number less
value_grows : (ds : List ℕ) (n : ℕ) → n ≤ digits_value_after 10 n ds
value_grows [] n = omega arith
value_grows (d ∷ ds) n = omega (arith, value_grows ds (n * 10 + digit_value d))

digit_known : (d : ℕ) → is_ascii_digit d ≡ true → digit_value d ≡ d - 48
digit_known d h = grind (arith, nat_tests)

-- the digits from a place on, the first of them taken in
value_step : (ds : List ℕ) (i n : ℕ) → i < length ds → digits_value_after 10 n (drop i ds) ≡ digits_value_after 10 (n * 10 + digit_value (get_or ds i 0)) (drop (i + 1) ds)
value_step ds i n h = at_drop_more (digits_value_after 10 n) ds i 0 h

pub tens_overflow : (ds : List ℕ) (i n : ℕ) → i < length ds → digits_value_after 10 n (drop i ds) ≡ digits_value 10 ds → 18446744073709551616 ≤ n * 10 → 18446744073709551615 < digits_value 10 ds
tens_overflow ds i n h so large = omega (arith, value_step ds i n h, value_grows (drop (i + 1) ds) (n * 10 + digit_value (get_or ds i 0)), so)

pub more_overflow : (ds : List ℕ) (i n : ℕ) → i < length ds → is_ascii_digit (get_or ds i 0) ≡ true → digits_value_after 10 n (drop i ds) ≡ digits_value 10 ds →
    18446744073709551616 ≤ n * 10 + (get_or ds i 0 - 48) → 18446744073709551615 < digits_value 10 ds
more_overflow ds i n h digit so large = omega (arith, value_step ds i n h, value_grows (drop (i + 1) ds) (n * 10 + digit_value (get_or ds i 0)), so, digit_known (get_or ds i 0) digit)

pub digit_at : (ds : List ℕ) (i : ℕ) → list_all is_ascii_digit ds ≡ true → i < length ds → is_ascii_digit (get_or ds i 0) ≡ true
digit_at ds i all h = by_test (is_ascii_digit (get_or ds i 0)) refl
  where
    by_test : (test : Bool) → is_ascii_digit (get_or ds i 0) ≡ test → is_ascii_digit (get_or ds i 0) ≡ true
    by_test true e = e
    by_test false e = absurd (false≢true (sym (list_all_at is_ascii_digit ds i 0 h e) ∙ all))
