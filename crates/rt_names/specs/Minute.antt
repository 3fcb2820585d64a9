-- Minutes of the calendar as texts.
use Rattle.std.specs.Prelude.{◌≡◌, ℕ, ◌+◌, ◌/◌, ◌%◌, ◌≤◌, List, [], ◌∷◌}
use Rattle.rt_names.specs.Calendar.{CivilDate, IsCivilDate, day_number, date_of_day}

-- The last digit of a number.
abbrev pub digit : ℕ → ℕ
digit n = 48 + n % 10

-- A minute of a date as `YYYYMMDDTHHmmZ`.
abbrev pub minute_form : CivilDate → ℕ → ℕ → List ℕ
minute_form date hour minute =
    digit (date.year / 1000) ∷ digit (date.year / 100) ∷ digit (date.year / 10) ∷ digit date.year
    ∷ digit (date.month / 10) ∷ digit date.month
    ∷ digit (date.day / 10) ∷ digit date.day
    ∷ 84
    ∷ digit (hour / 10) ∷ digit hour
    ∷ digit (minute / 10) ∷ digit minute
    ∷ 90 ∷ []

-- The text is the minute in UTC of a moment in milliseconds since 1970: that of the date of the calendar whose number is the moment's day.
pub record IsMinuteOf (millis : ℕ) (text : List ℕ) : Type 0 where
  pub date : CivilDate
  pub exists : IsCivilDate date
  pub day : day_number date ≡ millis / 86_400_000
  pub form : text ≡ minute_form date (millis / 3_600_000 % 24) (millis / 60_000 % 60)

-- The minute in UTC of a moment in milliseconds since 1970.
unfoldable pub minute_text : ℕ → List ℕ
minute_text millis = minute_form (date_of_day (millis / 86_400_000)) (millis / 3_600_000 % 24) (millis / 60_000 % 60)

-- Some moment has this minute.
pub record IsMinute (text : List ℕ) : Type 0 where
  pub millis : ℕ
  pub in_range : millis ≤ 253_402_300_799_999
  pub of_moment : IsMinuteOf millis text
