use Rattle.std.proofs.Common.{rules, ◌≡◌, ℕ, ◌+◌, ◌*◌, List, Some, sym, ap, subst, ◌∙◌, arith}
use Rattle.std.proofs.lemmas.Bool.{true≢false}
use Rattle.std.proofs.lemmas.Bool.Decides.{Decides-eqb}
use Rattle.std.proofs.lemmas.Slice.Eq.{slice_eq-Decides}
use Rattle.std.proofs.lemmas.Option.{none-some, same_Some}
use Rattle.rt_names.specs.Calendar.{IsCivilDate}
use Rattle.rt_names.specs.Minute.{minute_form, IsMinute}
use Rattle.rt_names.proofs.Minutes.{date_at}
use Rattle.rt_names.proofs.Reading.{pair_at, IsWritten, minute_written, minute_exists}
use Rattle.rt_names.proofs.minute.minute_in.Goals as goal
use Rattle.rt_names.proofs.minute.minute_in.Goals.{then-not-is_date-via-then-not-is_date, then-not-is_date-via-else-not-is_date+then-hour-gt23, then-not-is_date-via-else-not-is_date+else-hour-gt23+then-minute-gt59}

-- a minute's text is made of the numbers that were read of it
read_is : (text bytes : List ℕ) (first second month day hour minute : ℕ) → bytes ≡ text → first ≡ pair_at bytes 0 → second ≡ pair_at bytes 2 → month ≡ pair_at bytes 4 → day ≡ pair_at bytes 6 → hour ≡ pair_at bytes 9 → minute ≡ pair_at bytes 11 → IsMinute text → IsWritten text (date_at (first * 100 + second) month day) hour minute
read_is text bytes first second month day hour minute same a b m d h n is =
    let at : (i : ℕ) → pair_at bytes i ≡ pair_at text i = λ i. ap (λ t. pair_at t i) same in
    rw (a, b, m, d, h, n, at 0, at 2, at 4, at 6, at 9, at 11) (minute_written text is)

pub returns-then-not-is_date : goal.returns-then-not-is_date
returns-then-not-is_date c minute = (
  λ none. absurd (none-some _ none),
  λ there.
      let written : IsWritten c.args.text.now (date_at (c.two_digits.result * 100 + c.two_digits-2.result) c.two_digits-month.result c.two_digits-day.result) c.two_digits-hour.result c.two_digits-minute.result = read_is c.args.text.now c.as_bytes-bytes.result.now c.two_digits.result c.two_digits-2.result c.two_digits-month.result c.two_digits-day.result c.two_digits-hour.result c.two_digits-minute.result c.as_bytes-bytes.ensures.value c.two_digits.ensures c.two_digits-2.ensures c.two_digits-month.ensures c.two_digits-day.ensures c.two_digits-hour.ensures c.two_digits-minute.ensures (subst IsMinute (sym there.1) there.0) in
      elim c.then-not-is_date.branch [
        | then-not-is_date-via-then-not-is_date w ↦ absurd (true≢false (sym (c.is_date.ensures.1 written.exists) ∙ w.if-not-is_date.true))
        | then-not-is_date-via-else-not-is_date+then-hour-gt23 w ↦ absurd (omega (arith, w.if-hour-gt23.true, written.hour_in))
        | then-not-is_date-via-else-not-is_date+else-hour-gt23+then-minute-gt59 w ↦ absurd (omega (arith, w.if-minute-gt59.true, written.minute_in))
      ],
)

pub returns-then-eq : goal.returns-then-eq
returns-then-eq c minute =
    let bytes : c.as_bytes-bytes.result.now ≡ c.args.text.now = c.as_bytes-bytes.ensures.value in
    let has : IsCivilDate (date_at (c.two_digits.result * 100 + c.two_digits-2.result) c.two_digits-month.result c.two_digits-day.result) = c.is_date.ensures.0 c.if-not-is_date.false in
    let is : c.form-written.result ≡ minute_form (date_at (c.two_digits.result * 100 + c.two_digits-2.result) c.two_digits-month.result c.two_digits-day.result) c.two_digits-hour.result c.two_digits-minute.result = c.form-written.ensures in
    let equal : c.args.text.now ≡ c.form-written.result = search rules in
    let exists : IsMinute c.form-written.result = subst IsMinute (sym is) (minute_exists (date_at (c.two_digits.result * 100 + c.two_digits-2.result) c.two_digits-month.result c.two_digits-day.result) c.two_digits-hour.result c.two_digits-minute.result has c.if-hour-gt23.false c.if-minute-gt59.false) in
    (λ same. (subst IsMinute (same_Some _ _ same) exists, equal ∙ same_Some _ _ same), λ there. ap Some (sym equal ∙ there.1))

pub returns-else-eq : goal.returns-else-eq
returns-else-eq c minute = (
  λ none. absurd (none-some _ none),
  λ there.
      let is : c.form-written.result ≡ minute_form (date_at (c.two_digits.result * 100 + c.two_digits-2.result) c.two_digits-month.result c.two_digits-day.result) c.two_digits-hour.result c.two_digits-minute.result = c.form-written.ensures in
      let written : IsWritten c.args.text.now (date_at (c.two_digits.result * 100 + c.two_digits-2.result) c.two_digits-month.result c.two_digits-day.result) c.two_digits-hour.result c.two_digits-minute.result = read_is c.args.text.now c.as_bytes-bytes.result.now c.two_digits.result c.two_digits-2.result c.two_digits-month.result c.two_digits-day.result c.two_digits-hour.result c.two_digits-minute.result c.as_bytes-bytes.ensures.value c.two_digits.ensures c.two_digits-2.ensures c.two_digits-month.ensures c.two_digits-day.ensures c.two_digits-hour.ensures c.two_digits-minute.ensures (subst IsMinute (sym there.1) there.0) in
      let equal : c.as_bytes-bytes.result.now ≡ c.as_slice.result.now = c.as_bytes-bytes.ensures.value ∙ written.form ∙ sym is ∙ sym c.as_slice.ensures in
      absurd (true≢false (sym ((slice_eq-Decides Decides-eqb _ _ _ c.eq.ensures).1 equal) ∙ c.if-eq.false)),
)
