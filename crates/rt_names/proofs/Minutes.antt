-- Minutes of dates.
use Rattle.std.proofs.Common.{◌≡◌, ℕ, ◌/◌, ◌%◌, List, sym, ap, subst, ◌∙◌, arith, ℤ, pos}
use Rattle.jiff_core.proofs.SignedLemmas.{signed_arith}
use Rattle.rt_names.specs.Calendar.{CivilDate, IsCivilDate, day_number}
use Rattle.rt_names.specs.Minute.{minute_form, IsMinuteOf}
use Rattle.rt_names.proofs.Dates.{IsDateOfDay}

abbrev pub date_at : ℕ → ℕ → ℕ → CivilDate
date_at year month day = record { year = year; month = month; day = day }

-- a text that is made of the date of a moment's day and of its hour and minute is its minute
pub minute_is : (millis : ℕ) (text : List ℕ) (year : ℤ) (month day y m d : ℕ) → IsDateOfDay year month day (millis / 86_400_000) → year ≡ pos y → month ≡ m → day ≡ d → text ≡ minute_form (date_at y m d) (millis / 3_600_000 % 24) (millis / 60_000 % 60) → IsMinuteOf millis text
minute_is millis text year month day y m d of_day year_is month_is day_is form =
    let number : of_day.number ≡ y = omega (arith, signed_arith, of_day.year_is, year_is) in
    let same : date_at of_day.number month day ≡ date_at y m d = ap (λ n. date_at n month day) number ∙ ap (λ n. date_at y n day) month_is ∙ ap (λ n. date_at y m n) day_is in
    record {
      date = date_at y m d;
      exists = subst IsCivilDate same of_day.exists;
      day = ap day_number (sym same) ∙ of_day.day_is;
      form = form;
    }
