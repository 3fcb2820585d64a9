-- The calendar that dates are computed by is the one of the contracts.
use Rattle.std.proofs.Common.{◌≡◌, ℕ, zero, suc, ◌+◌, ◌-◌, ◌<◌, ◌≤◌, get_or, take, sum, add_assoc, refl, sym, ap, subst, inl, inr, ◌∙◌, arith, ℤ, pos, negsuc}
use Rattle.jiff_core.specs.declared.civil.date.Date.{Date}
use Rattle.jiff_core.specs.Calendar.{days_in_month, days_of_months, day_count, days_from_civil}
use Rattle.jiff_core.specs.Date.{epoch_day}
use Rattle.jiff_core.specs.Calendar.{IsCivilDate as CalendarHas, IsDate}
use Rattle.std.specs.Prelude.{◌↔◌}
use Rattle.std.proofs.lemmas.Bool.{cases_lt}
use Rattle.jiff_core.proofs.SignedLemmas.{signed_arith}
use Rattle.jiff_core.proofs.CalendarLemmas.{day_count-epoch, day_count-next_year, day_count-day_of_year, day_count-lt_year, day_count_bounds, day_count-end, days_from_civil-day_count}
use Rattle.rt_names.specs.Calendar.{month_lengths, year_length, days_of_years, CivilDate, IsCivilDate, day_number}

-- a year's first day
year_start : (k : ℕ) → day_count (pos (1970 + k)) 1 1 ≡ 4_371_953 + days_of_years k
unfolding days_of_years
year_start zero = day_count-epoch
year_start (suc k) =
    let next = day_count-next_year (pos (1970 + k)) (pos (1970 + suc k)) (omega (arith, signed_arith)) (omega (arith, signed_arith)) in
    next ∙ (ap (λ n. n + year_length (1970 + k)) (year_start k) ∙ add_assoc 4_371_953 (days_of_years k) (year_length (1970 + k)))

-- a month's length
pub month_length_same : (y m : ℕ) → 1 ≤ m → m ≤ 12 → days_in_month (pos y) m ≡ get_or (month_lengths y) (m - 1) 0
month_length_same y zero low high = absurd (omega arith)
month_length_same y (suc zero) low high = refl
month_length_same y (suc (suc zero)) low high = refl
month_length_same y (suc (suc (suc zero))) low high = refl
month_length_same y (suc (suc (suc (suc zero)))) low high = refl
month_length_same y (suc (suc (suc (suc (suc zero))))) low high = refl
month_length_same y (suc (suc (suc (suc (suc (suc zero)))))) low high = refl
month_length_same y (suc (suc (suc (suc (suc (suc (suc zero))))))) low high = refl
month_length_same y (suc (suc (suc (suc (suc (suc (suc (suc zero)))))))) low high = refl
month_length_same y (suc (suc (suc (suc (suc (suc (suc (suc (suc zero))))))))) low high = refl
month_length_same y (suc (suc (suc (suc (suc (suc (suc (suc (suc (suc zero)))))))))) low high = refl
month_length_same y (suc (suc (suc (suc (suc (suc (suc (suc (suc (suc (suc zero))))))))))) low high = refl
month_length_same y (suc (suc (suc (suc (suc (suc (suc (suc (suc (suc (suc (suc zero)))))))))))) low high = refl
month_length_same y (suc (suc (suc (suc (suc (suc (suc (suc (suc (suc (suc (suc (suc n))))))))))))) low high = absurd (omega arith)

-- the days before a month
months_same : (y n : ℕ) → n < 12 → days_of_months (pos y) n ≡ sum (take n (month_lengths y))
unfolding days_of_months
months_same y zero h = grind arith
months_same y (suc zero) h = grind arith
months_same y (suc (suc zero)) h = grind arith
months_same y (suc (suc (suc zero))) h = grind arith
months_same y (suc (suc (suc (suc zero)))) h = grind arith
months_same y (suc (suc (suc (suc (suc zero))))) h = grind arith
months_same y (suc (suc (suc (suc (suc (suc zero)))))) h = grind arith
months_same y (suc (suc (suc (suc (suc (suc (suc zero))))))) h = grind arith
months_same y (suc (suc (suc (suc (suc (suc (suc (suc zero)))))))) h = grind arith
months_same y (suc (suc (suc (suc (suc (suc (suc (suc (suc zero))))))))) h = grind arith
months_same y (suc (suc (suc (suc (suc (suc (suc (suc (suc (suc zero)))))))))) h = grind arith
months_same y (suc (suc (suc (suc (suc (suc (suc (suc (suc (suc (suc zero))))))))))) h = grind arith
months_same y (suc (suc (suc (suc (suc (suc (suc (suc (suc (suc (suc (suc n)))))))))))) h = absurd (omega arith)

-- the first day of all
pub first_day : (a : Date) → a.year ≡ pos 1970 → pos a.month ≡ pos 1 → pos a.day ≡ pos 1 → epoch_day a ≡ pos 0
first_day a year month day =
    let m : a.month ≡ 1 = omega (arith, signed_arith) in
    let d : a.day ≡ 1 = omega (arith, signed_arith) in
    let here : days_from_civil (pos 1970) 1 1 ≡ pos 0 = omega (arith, signed_arith, days_from_civil-day_count (pos 1970) 1 1, day_count-epoch) in
    ap (λ y. days_from_civil y a.month a.day) year ∙ ap (λ n. days_from_civil (pos 1970) n a.day) m ∙ ap (λ n. days_from_civil (pos 1970) 1 n) d ∙ here

-- the day count of a date
pub day_count_is : (y m d : ℕ) → 1970 ≤ y → 1 ≤ m → m ≤ 12 → 1 ≤ d → day_count (pos y) m d ≡ 4_371_953 + day_number (record { year = y; month = m; day = d })
unfolding day_number
day_count_is y m d from low high first =
    let same : 1970 + (y - 1970) ≡ y = omega arith in
    let start : day_count (pos y) 1 1 ≡ 4_371_953 + days_of_years (y - 1970) = ap (λ z. day_count (pos z) 1 1) (sym same) ∙ year_start (y - 1970) in
    omega (arith, start, day_count-day_of_year (pos y) m d first, months_same y (m - 1) (omega arith))

-- what a date of a day from 1970 on is
pub record IsDateOfDay (year : ℤ) (month day n : ℕ) : Type 0 where
  pub number : ℕ
  pub year_is : year ≡ pos number
  pub exists : IsCivilDate (record { year = number; month = month; day = day })
  pub day_is : day_number (record { year = number; month = month; day = day }) ≡ n

pub date_of_day_is : (year : ℤ) (month day n : ℕ) → CalendarHas year month day → days_from_civil year month day ≡ pos n → IsDateOfDay year month day n
date_of_day_is (negsuc k) month day n has is =
    absurd (omega (arith, signed_arith, is, days_from_civil-day_count (negsuc k) month day, day_count-epoch, day_count-lt_year (negsuc k) month day (pos 1970) 1 1 has (omega arith) (omega (arith, signed_arith))))
date_of_day_is (pos y) month day n has is = elim (cases_lt y 1970) [
  | inl early ↦ absurd (omega (arith, signed_arith, is, days_from_civil-day_count (pos y) month day, day_count-epoch, day_count-lt_year (pos y) month day (pos 1970) 1 1 has (omega arith) (omega (arith, signed_arith))))
  | inr from ↦ record {
    number = y;
    year_is = refl;
    exists = record {
      first_year = from;
      last_year = omega (arith, signed_arith, has.0);
      first_month = has.1.0;
      last_month = has.1.1;
      first_day = has.2.0;
      last_day = subst (λ l. day ≤ l) (month_length_same y month has.1.0 has.1.1) has.2.1;
    };
    day_is = omega (arith, signed_arith, is, days_from_civil-day_count (pos y) month day, day_count_is y month day from has.1.0 has.1.1 has.2.0);
  }
]

-- what the calendar of the dates has, from 1970 to 9999, is what ours has
pub same_calendar : (y m d : ℕ) → 1970 ≤ y → y ≤ 9999 → m ≤ 12 → IsDate (pos y) (pos m) (pos d) ↔ IsCivilDate (record { year = y; month = m; day = d })
same_calendar y m d from to last = (
  λ is. record {
    first_year = from;
    last_year = to;
    first_month = omega (arith, signed_arith, is.1.0);
    last_month = last;
    first_day = omega (arith, signed_arith, is.2.0);
    last_day = omega (arith, signed_arith, is.2.1, is.1.0, month_length_same y m (omega (arith, signed_arith, is.1.0)) last);
  },
  λ has. (
    (omega (arith, signed_arith), omega (arith, signed_arith)),
    (omega (arith, signed_arith, has.first_month), omega (arith, signed_arith)),
    (omega (arith, signed_arith, has.first_day), omega (arith, signed_arith, has.last_day, month_length_same y m has.first_month last)),
  ),
)

-- a date of the calendar is one of the days that the last moment allows
pub day_number_last : (date : CivilDate) → IsCivilDate date → day_number date ≤ 2_932_896
day_number_last date has =
    let there : CalendarHas (pos date.year) date.month date.day =
    ((omega (arith, signed_arith), omega (arith, signed_arith, has.last_year)), (has.first_month, has.last_month), (has.first_day, subst (λ l. date.day ≤ l) (sym (month_length_same date.year date.month has.first_month has.last_month)) has.last_day)) in
    omega (arith, day_count_bounds (pos date.year) date.month date.day there, day_count_is date.year date.month date.day has.first_year has.first_month has.last_month has.first_day)

-- the days from 1970 to the end of 9999
pub days_to_the_end : days_of_years 8030 ≡ 2_932_897
days_to_the_end = omega (arith, year_start 8030, day_count-end)
