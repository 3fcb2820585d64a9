-- The minute of a moment as a function of it.
use Rattle.std.proofs.Common.{◌≡◌, ℕ, ◌/◌, ◌%◌, List, sym, ap, ◌∙◌}
use Rattle.rt_names.specs.Calendar.{CivilDate, IsCivilDate, day_number, date_of_day}
use Rattle.rt_names.specs.Minute.{minute_form, minute_text, IsMinuteOf}
use Rattle.rt_names.proofs.Counting.{date_of_day-day_number}

-- no two dates have one day number
pub same_date : (a b : CivilDate) → IsCivilDate a → IsCivilDate b → day_number a ≡ day_number b → a ≡ b
same_date a b has_a has_b same = sym (date_of_day-day_number a has_a) ∙ ap date_of_day same ∙ date_of_day-day_number b has_b

-- so a moment has one minute
pub minute_text_is : (millis : ℕ) (text : List ℕ) → IsMinuteOf millis text → text ≡ minute_text millis
unfolding minute_text
minute_text_is millis text is =
    let date : is.date ≡ date_of_day (millis / 86_400_000) = sym (date_of_day-day_number is.date is.exists) ∙ ap date_of_day is.day in
    is.form ∙ ap (λ d. minute_form d (millis / 3_600_000 % 24) (millis / 60_000 % 60)) date
