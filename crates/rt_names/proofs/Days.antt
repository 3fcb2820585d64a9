-- Each day of the calendar has a date, and each moment a minute.
use Rattle.std.proofs.Common.{◌≡◌, ℕ, zero, suc, ◌+◌, ◌-◌, ◌/◌, ◌%◌, ◌<◌, ◌≤◌, List, [], ◌∷◌, length, get_or, take, sum, refl, sym, ap, inl, inr, ◌∙◌, arith}
use Rattle.std.proofs.lemmas.Bool.{cases_lt}
use Rattle.rt_names.specs.Calendar.{month_lengths, year_length, days_of_years, CivilDate, IsCivilDate, day_number, date_of_day}
use Rattle.rt_names.specs.Minute.{minute_form, minute_text, IsMinute}
use Rattle.rt_names.proofs.Minutes.{date_at}
use Rattle.rt_names.proofs.Dates.{days_to_the_end}
use Rattle.rt_names.proofs.Counting.{sum-cons, year_length_is, date_of_day-day_number}

-- a day that lies in the month at a place
record IsInMonth (lengths : List ℕ) (n : ℕ) : Type 0 where
  place : ℕ
  day : ℕ
  in_range : place < length lengths
  within : day < get_or lengths place 0
  is : n ≡ sum (take place lengths) + day

in_month : (lengths : List ℕ) (n : ℕ) → n < sum lengths → IsInMonth lengths n
in_month [] n small = absurd (omega arith)
in_month (l ∷ ls) n small = elim (cases_lt n l) [
  | inl here ↦ record { place = 0; day = n; in_range = omega arith; within = here; is = omega arith }
  | inr past ↦
      let rest = in_month ls (n - l) (omega (arith, sum-cons l ls)) in
      record { place = suc rest.place; day = rest.day; in_range = omega (arith, rest.in_range); within = rest.within; is = omega (arith, rest.is, sum-cons l (take rest.place ls)) }
]

-- a day that lies in the year so many years after 1970
record IsInYear (n : ℕ) : Type 0 where
  years : ℕ
  day : ℕ
  within : day < year_length (1970 + years)
  is : n ≡ days_of_years years + day

in_year : (n : ℕ) → IsInYear n
unfolding days_of_years
in_year zero = record { years = 0; day = 0; within = omega arith; is = refl }
in_year (suc n) =
    let there = in_year n in
    elim (cases_lt (there.day + 1) (year_length (1970 + there.years))) [
      | inl more ↦ record { years = there.years; day = there.day + 1; within = more; is = omega (arith, there.is) }
      | inr last ↦ record { years = suc there.years; day = 0; within = grind arith; is = omega (arith, there.is, there.within) }
    ]

years_rise : (more k : ℕ) → days_of_years k ≤ days_of_years (k + more)
unfolding days_of_years
years_rise zero k = let same : k + 0 ≡ k = omega arith in rw same (omega arith)
years_rise (suc more) k = let next : k + suc more ≡ suc (k + more) = omega arith in rw next (omega (arith, years_rise more k))

years_below : (k : ℕ) → days_of_years k ≤ 2_932_896 → k < 8030
years_below k few = elim (cases_lt k 8030) [
  | inl below ↦ below
  | inr past ↦
      let place : 8030 + (k - 8030) ≡ k = omega arith in
      absurd (omega (arith, days_to_the_end, years_rise (k - 8030) 8030, ap days_of_years place))
]

-- the date of a day
pub record HasDate (n : ℕ) : Type 0 where
  pub date : CivilDate
  pub exists : IsCivilDate date
  pub is : day_number date ≡ n

pub has_date : (n : ℕ) → n ≤ 2_932_896 → HasDate n
unfolding day_number
has_date n few =
    let year = in_year n in
    let lengths = month_lengths (1970 + year.years) in
    let month = in_month lengths year.day (omega (arith, year.within, year_length_is (1970 + year.years))) in
    let below : year.years < 8030 = years_below year.years (omega (arith, year.is)) in
    let number : 1970 + year.years - 1970 ≡ year.years = omega arith in
    let place : month.place + 1 - 1 ≡ month.place = omega arith in
    record {
      date = date_at (1970 + year.years) (month.place + 1) (month.day + 1);
      exists = record {
        first_year = omega arith;
        last_year = omega arith;
        first_month = omega arith;
        last_month = omega (arith, month.in_range);
        first_day = omega arith;
        last_day = omega (arith, month.within, ap (λ i. get_or lengths i 0) place);
      };
      is = omega (arith, ap days_of_years number, ap (λ i. sum (take i lengths)) place, month.is, year.is);
    }

-- each moment has a minute
pub minute_text_exists : (millis : ℕ) → millis ≤ 253_402_300_799_999 → IsMinute (minute_text millis)
unfolding minute_text
minute_text_exists millis last =
    let day = has_date (millis / 86_400_000) (omega arith) in
    let same : date_of_day (millis / 86_400_000) ≡ day.date = ap date_of_day (sym day.is) ∙ date_of_day-day_number day.date day.exists in
    record { millis = millis; in_range = last; of_moment = record { date = day.date; exists = day.exists; day = day.is; form = ap (λ d. minute_form d (millis / 3_600_000 % 24) (millis / 60_000 % 60)) same } }
