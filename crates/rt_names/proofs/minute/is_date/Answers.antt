use Rattle.std.proofs.Common.{◌≡◌, ◌∙◌, sym, pos, to_z, w16, w8, arith}
use Rattle.std.specs.Prelude.{◌↔◌}
use Rattle.std.proofs.lemmas.Int.{ints}
use Rattle.jiff_core.specs.Calendar.{IsDate}
use Rattle.rt_names.specs.Calendar.{IsCivilDate}
use Rattle.rt_names.proofs.Minutes.{date_at}
use Rattle.rt_names.proofs.Dates.{same_calendar}
use Rattle.rt_names.proofs.minute.is_date.Goals as goal

pub returns : goal.returns
returns c =
    let year : to_z w16 c.args.year ≡ pos c.args.year = omega (arith, ints) in
    let month : to_z w8 c.args.month ≡ pos c.args.month = omega (arith, ints) in
    let day : to_z w8 c.args.day ≡ pos c.args.day = omega (arith, ints) in
    let same : IsDate (to_z w16 c.args.year) (to_z w8 c.args.month) (to_z w8 c.args.day) ↔ IsCivilDate (date_at c.args.year c.args.month c.args.day) = rw (year, month, day) (same_calendar c.args.year c.args.month c.args.day c.if-year-lt1970.false c.if-year-gt9999.false c.if-month-gt12.false) in
    (λ is. same.0 (c.new.ensures.succeeds.0 (sym c.is_ok.ensures.value ∙ is)), λ has. c.is_ok.ensures.value ∙ c.new.ensures.succeeds.1 (same.1 has))
