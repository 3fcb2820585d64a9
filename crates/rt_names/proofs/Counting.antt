-- Counting off years and months gives back each date from its day number.
use Rattle.std.proofs.Common.{◌≡◌, ℕ, zero, suc, ◌+◌, ◌-◌, ◌<◌, ◌≤◌, Bool, true, false, List, [], ◌∷◌, get_or, take, sum, nat_lt, refl, sym, ap, subst, ◌∙◌, arith}
use Rattle.std.specs.Prelude.{if◌then◌else◌}
use Rattle.std.proofs.lemmas.Bool.{lt-ltb, le-ltb}
use Rattle.std.proofs.lemmas.List.Sums.{sum_by-cons}
use Rattle.rt_names.specs.Calendar.{month_lengths, year_length, days_of_years, CivilDate, IsCivilDate, day_number, date_in_months, date_in_years, date_of_day}
use Rattle.rt_names.proofs.Minutes.{date_at}

-- a choice whose test is known
chosen : {X : Type 0} (b : Bool) (x y : X) → b ≡ true → (if b then x else y) ≡ x
chosen b x y is = ap (λ t. if t then x else y) is

passed : {X : Type 0} (b : Bool) (x y : X) → b ≡ false → (if b then x else y) ≡ y
passed b x y is = ap (λ t. if t then x else y) is

pub sum-cons : (x : ℕ) (xs : List ℕ) → sum (x ∷ xs) ≡ x + sum xs
sum-cons = sum_by-cons (λ x. x)

months_counted : (year month : ℕ) (lengths : List ℕ) (k d : ℕ) → d < get_or lengths k 0 → date_in_months year month lengths (sum (take k lengths) + d) ≡ date_at year (month + k) (d + 1)
unfolding date_in_months
months_counted year month [] k d within = absurd (omega arith)
months_counted year month (l ∷ ls) zero d within =
    let same : 0 + d ≡ d = omega arith in
    let here : month ≡ month + 0 = omega arith in
    rw same (chosen _ _ _ (lt-ltb d l within) ∙ ap (λ m. date_at year m (d + 1)) here)
months_counted year month (l ∷ ls) (suc k) d within =
    let front : sum (take (suc k) (l ∷ ls)) ≡ l + sum (take k ls) = sum-cons l (take k ls) in
    let left : sum (take (suc k) (l ∷ ls)) + d - l ≡ sum (take k ls) + d = omega arith in
    let later : month + 1 + k ≡ month + suc k = omega arith in
    passed (nat_lt (sum (take (suc k) (l ∷ ls)) + d) l) (date_at year month (sum (take (suc k) (l ∷ ls)) + d + 1)) (date_in_months year (month + 1) ls (sum (take (suc k) (l ∷ ls)) + d - l)) (le-ltb (sum (take (suc k) (l ∷ ls)) + d) l (omega arith)) ∙ (ap (date_in_months year (month + 1) ls) left ∙ (months_counted year (month + 1) ls k d within ∙ ap (λ m. date_at year m (d + 1)) later))

-- the days of so many years from a year on, the first counted first
span : ℕ → ℕ → ℕ
span year zero = 0
span year (suc k) = year_length year + span (year + 1) k

span_more : (year k : ℕ) → span year (suc k) ≡ span year k + year_length (year + k)
unfolding span
span_more year zero = let same : year + 0 ≡ year = omega arith in rw same (omega arith)
span_more year (suc k) =
    let next : year + 1 + k ≡ year + suc k = omega arith in
    omega (arith, span_more (year + 1) k, ap year_length next)

span_is : (k : ℕ) → days_of_years k ≡ span 1970 k
unfolding span days_of_years
span_is zero = refl
span_is (suc k) = ap (λ n. n + year_length (1970 + k)) (span_is k) ∙ sym (span_more 1970 k)

years_counted : (n k year r : ℕ) → k ≤ n → r < year_length (year + k) → date_in_years n year (span year k + r) ≡ date_in_months (year + k) 1 (month_lengths (year + k)) r
unfolding date_in_years span
years_counted zero zero year r le within = let same : year + 0 ≡ year = omega arith in let days : 0 + r ≡ r = omega arith in rw (same, days)
years_counted zero (suc k) year r le within = absurd (omega arith)
years_counted (suc n) zero year r le within =
    let same : year + 0 ≡ year = omega arith in
    let days : 0 + r ≡ r = omega arith in
    let less : r < year_length year = subst (λ y. r < year_length y) same within in
    rw (same, days, lt-ltb r (year_length year) less)
years_counted (suc n) (suc k) year r le within =
    let next : year + 1 + k ≡ year + suc k = omega arith in
    let left : year_length year + span (year + 1) k + r - year_length year ≡ span (year + 1) k + r = omega arith in
    let less : r < year_length (year + 1 + k) = subst (λ y. r < year_length y) (sym next) within in
    rw (le-ltb (year_length year + span (year + 1) k + r) (year_length year) (omega arith), left) (years_counted n k (year + 1) r (omega arith) less ∙ ap (λ y. date_in_months y 1 (month_lengths y) r) next)

-- a place in a list of lengths
place_within : (lengths : List ℕ) (k d : ℕ) → d < get_or lengths k 0 → sum (take k lengths) + d < sum lengths
place_within [] k d within = absurd (omega arith)
place_within (l ∷ ls) zero d within = omega (arith, sum-cons l ls)
place_within (l ∷ ls) (suc k) d within = omega (arith, sum-cons l ls, sum-cons l (take k ls), place_within ls k d within)

pub year_length_is : (year : ℕ) → sum (month_lengths year) ≡ year_length year
year_length_is year = grind arith

years_grow : (k : ℕ) → k ≤ days_of_years k
unfolding days_of_years
years_grow zero = omega arith
years_grow (suc k) = grind (arith, years_grow k)

pub date_of_day-day_number : (date : CivilDate) → IsCivilDate date → date_of_day (day_number date) ≡ date
unfolding date_of_day day_number
date_of_day-day_number date has =
    let k = date.year - 1970 in
    let year : 1970 + k ≡ date.year = omega (arith, has.first_year) in
    let rest = sum (take (date.month - 1) (month_lengths date.year)) + (date.day - 1) in
    let in_month : date.day - 1 < get_or (month_lengths date.year) (date.month - 1) 0 = omega (arith, has.first_day, has.last_day) in
    let in_year : rest < year_length date.year = omega (arith, year_length_is date.year, place_within (month_lengths date.year) (date.month - 1) (date.day - 1) in_month) in
    let number : day_number date ≡ span 1970 k + rest = omega (arith, span_is k) in
    let years : date_in_years (day_number date) 1970 (span 1970 k + rest) ≡ date_in_months (1970 + k) 1 (month_lengths (1970 + k)) rest = years_counted (day_number date) k 1970 rest (omega (arith, number, years_grow k, span_is k)) (subst (λ y. rest < year_length y) (sym year) in_year) in
    let months : date_in_months date.year 1 (month_lengths date.year) rest ≡ date_at date.year (1 + (date.month - 1)) (date.day - 1 + 1) = months_counted date.year 1 (month_lengths date.year) (date.month - 1) (date.day - 1) in_month in
    let month : 1 + (date.month - 1) ≡ date.month = omega (arith, has.first_month) in
    let day : date.day - 1 + 1 ≡ date.day = omega (arith, has.first_day) in
    ap (date_in_years (day_number date) 1970) number ∙ (years ∙ (ap (λ y. date_in_months y 1 (month_lengths y) rest) year ∙ (months ∙ (ap (λ m. date_at date.year m (date.day - 1 + 1)) month ∙ ap (date_at date.year date.month) day))))
