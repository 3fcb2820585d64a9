-- What the digits of a minute are read as.
use Rattle.std.proofs.Common.{◌≡◌, ℕ, zero, suc, ◌+◌, ◌-◌, ◌*◌, ◌/◌, ◌%◌, ◌<◌, ◌≤◌, List, slice_index, sym, ap, subst, ◌∙◌, arith}
use Rattle.rt_names.specs.Calendar.{month_lengths, CivilDate, IsCivilDate, day_number}
use Rattle.rt_names.specs.Minute.{digit, minute_form, IsMinute}
use Rattle.rt_names.proofs.Minutes.{date_at}
use Rattle.rt_names.proofs.Dates.{day_number_last}

-- the number that two bytes at a place write
abbrev pub pair_at : List ℕ → ℕ → ℕ
pair_at bytes at = (slice_index bytes at - 48) * 10 + (slice_index bytes (at + 1) - 48)

two : (n : ℕ) → n < 100 → (digit (n / 10) - 48) * 10 + (digit n - 48) ≡ n
two n small = omega arith

four : (n : ℕ) → n < 10_000 → ((digit (n / 1000) - 48) * 10 + (digit (n / 100) - 48)) * 100 + ((digit (n / 10) - 48) * 10 + (digit n - 48)) ≡ n
four n small = omega arith

-- each part of a minute's text is read as what it was written of
pub record IsReadAs (bytes : List ℕ) (date : CivilDate) (hour minute : ℕ) : Type 0 where
  pub year : pair_at bytes 0 * 100 + pair_at bytes 2 ≡ date.year
  pub month : pair_at bytes 4 ≡ date.month
  pub day : pair_at bytes 6 ≡ date.day
  pub hour_is : pair_at bytes 9 ≡ hour
  pub minute_is : pair_at bytes 11 ≡ minute

pub read_as : (date : CivilDate) (hour minute : ℕ) → date.year < 10_000 → date.month < 100 → date.day < 100 → hour < 100 → minute < 100 → IsReadAs (minute_form date hour minute) date hour minute
read_as date hour minute y m d h n = record {
  year = four date.year y;
  month = two date.month m;
  day = two date.day d;
  hour_is = two hour h;
  minute_is = two minute n;
}

-- each minute of each date of the calendar is that of a moment
pub minute_exists : (date : CivilDate) (hour minute : ℕ) → IsCivilDate date → hour ≤ 23 → minute ≤ 59 → IsMinute (minute_form date hour minute)
minute_exists date hour minute has h n =
    let millis = day_number date * 86_400_000 + hour * 3_600_000 + minute * 60_000 in
    let last = day_number_last date has in
    let day : day_number date ≡ millis / 86_400_000 = omega arith in
    let hour_is : millis / 3_600_000 % 24 ≡ hour = omega arith in
    let minute_is : millis / 60_000 % 60 ≡ minute = omega arith in
    record {
      millis = millis;
      in_range = omega arith;
      of_moment = record { date = date; exists = has; day = day; form = ap (λ k. minute_form date k minute) (sym hour_is) ∙ ap (minute_form date (millis / 3_600_000 % 24)) (sym minute_is) };
    }

-- no month has more than 31 days
longest : (year month : ℕ) → slice_index (month_lengths year) month ≤ 31
longest year zero = grind arith
longest year (suc zero) = grind arith
longest year (suc (suc zero)) = grind arith
longest year (suc (suc (suc zero))) = grind arith
longest year (suc (suc (suc (suc zero)))) = grind arith
longest year (suc (suc (suc (suc (suc zero))))) = grind arith
longest year (suc (suc (suc (suc (suc (suc zero)))))) = grind arith
longest year (suc (suc (suc (suc (suc (suc (suc zero))))))) = grind arith
longest year (suc (suc (suc (suc (suc (suc (suc (suc zero)))))))) = grind arith
longest year (suc (suc (suc (suc (suc (suc (suc (suc (suc zero))))))))) = grind arith
longest year (suc (suc (suc (suc (suc (suc (suc (suc (suc (suc zero)))))))))) = grind arith
longest year (suc (suc (suc (suc (suc (suc (suc (suc (suc (suc (suc zero))))))))))) = grind arith
longest year (suc (suc (suc (suc (suc (suc (suc (suc (suc (suc (suc (suc n)))))))))))) = grind arith

-- a minute is the text of the date, the hour and the minute that its digits are read as
pub record IsWritten (text : List ℕ) (date : CivilDate) (hour minute : ℕ) : Type 0 where
  pub exists : IsCivilDate date
  pub hour_in : hour ≤ 23
  pub minute_in : minute ≤ 59
  pub form : text ≡ minute_form date hour minute

written_at : (text : List ℕ) (date : CivilDate) (hour minute : ℕ) → IsCivilDate date → hour ≤ 23 → minute ≤ 59 → text ≡ minute_form date hour minute → IsWritten text (date_at (pair_at text 0 * 100 + pair_at text 2) (pair_at text 4) (pair_at text 6)) (pair_at text 9) (pair_at text 11)
written_at text date hour minute has h n form =
    let last : date.day < 100 = omega (arith, has.last_day, longest date.year (date.month - 1)) in
    let reads : IsReadAs text date hour minute = subst (λ t. IsReadAs t date hour minute) (sym form) (read_as date hour minute (omega (arith, has.last_year)) (omega (arith, has.last_month)) last (omega arith) (omega arith)) in
    let same : date ≡ date_at (pair_at text 0 * 100 + pair_at text 2) (pair_at text 4) (pair_at text 6) = ap (λ y. date_at y date.month date.day) (sym reads.year) ∙ ap (λ m. date_at (pair_at text 0 * 100 + pair_at text 2) m date.day) (sym reads.month) ∙ ap (date_at (pair_at text 0 * 100 + pair_at text 2) (pair_at text 4)) (sym reads.day) in
    record {
      exists = subst IsCivilDate same has;
      hour_in = omega (arith, reads.hour_is);
      minute_in = omega (arith, reads.minute_is);
      form = form ∙ ap (λ d. minute_form d hour minute) same ∙ ap (λ k. minute_form (date_at (pair_at text 0 * 100 + pair_at text 2) (pair_at text 4) (pair_at text 6)) k minute) (sym reads.hour_is) ∙ ap (minute_form (date_at (pair_at text 0 * 100 + pair_at text 2) (pair_at text 4) (pair_at text 6)) (pair_at text 9)) (sym reads.minute_is);
    }

pub minute_written : (text : List ℕ) → IsMinute text → IsWritten text (date_at (pair_at text 0 * 100 + pair_at text 2) (pair_at text 4) (pair_at text 6)) (pair_at text 9) (pair_at text 11)
minute_written text is = written_at text is.of_moment.date (is.millis / 3_600_000 % 24) (is.millis / 60_000 % 60) is.of_moment.exists (omega arith) (omega arith) is.of_moment.form
