-- The civil calendar from 1970 to 9999.
use Rattle.std.specs.Prelude.{ℕ, zero, suc, ◌+◌, ◌-◌, ◌%◌, ◌≤◌, Bool, not, ◌&&◌, ◌||◌, ◌==◌, if◌then◌else◌, List, [], ◌∷◌, sum, take, slice_index, nat_lt}

-- Every fourth year, but of the centuries only every fourth.
abbrev pub is_leap_year : ℕ → Bool
is_leap_year year = (year % 4 == 0) && (not (year % 100 == 0) || (year % 400 == 0))

-- The days of each month of a year.
abbrev pub month_lengths : ℕ → List ℕ
month_lengths year = 31 ∷ (if is_leap_year year then 29 else 28) ∷ 31 ∷ 30 ∷ 31 ∷ 30 ∷ 31 ∷ 31 ∷ 30 ∷ 31 ∷ 30 ∷ 31 ∷ []

-- The days of a year.
abbrev pub year_length : ℕ → ℕ
year_length year = if is_leap_year year then 366 else 365

-- The days of so many years from 1970 on.
unfoldable pub days_of_years : ℕ → ℕ
days_of_years zero = 0
days_of_years (suc n) = days_of_years n + year_length (1970 + n)

-- A year, a month from 1 and a day of the month from 1.
pub record CivilDate : Type 0 where
  pub year : ℕ
  pub month : ℕ
  pub day : ℕ

-- The calendar has this date.
pub record IsCivilDate (date : CivilDate) : Type 0 where
  pub first_year : 1970 ≤ date.year
  pub last_year : date.year ≤ 9999
  pub first_month : 1 ≤ date.month
  pub last_month : date.month ≤ 12
  pub first_day : 1 ≤ date.day
  pub last_day : date.day ≤ slice_index (month_lengths date.year) (date.month - 1)

-- How many days lie between 1 January 1970 and the date.
unfoldable pub day_number : CivilDate → ℕ
day_number date = days_of_years (date.year - 1970) + sum (take (date.month - 1) (month_lengths date.year)) + (date.day - 1)

-- The date so many days after the first of a month, where these are the lengths of that month and of those after it: months are counted off.
unfoldable pub date_in_months : ℕ → ℕ → List ℕ → ℕ → CivilDate
date_in_months year month [] days = record { year = year; month = month; day = days + 1 }
date_in_months year month (length ∷ lengths) days =
    if nat_lt days length then record { year = year; month = month; day = days + 1 } else date_in_months year (month + 1) lengths (days - length)

-- The date so many days after the first of a year: at most n years are counted off, and then months.
unfoldable pub date_in_years : ℕ → ℕ → ℕ → CivilDate
date_in_years zero year days = date_in_months year 1 (month_lengths year) days
date_in_years (suc n) year days =
    if nat_lt days (year_length year) then date_in_months year 1 (month_lengths year) days else date_in_years n (year + 1) (days - year_length year)

-- The date so many days after 1 January 1970.
unfoldable pub date_of_day : ℕ → CivilDate
date_of_day days = date_in_years days 1970 days
