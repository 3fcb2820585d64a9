use Rattle.std.proofs.Common.{◌≡◌, ◌∙◌, subst, arith, w64, pos, to_z, IfOk}
use Rattle.std.specs.Result.{IfOk}
use Rattle.std.proofs.lemmas.Int.{ints}
use Rattle.jiff.proofs.SpanFacts.{signed_arith, date_add-days, can_add-days}
use Rattle.jiff.specs.Words.{epoch_day, date_add}
use Rattle.jiff_core.specs.declared.unit.Unit.TheVariants.{Day}
use Rattle.jiff_core.specs.Span.{IsOnly}
use Rattle.rt_names.proofs.Dates.{first_day}
use Rattle.rt_names.proofs.minute.date_of_day.Goals as goal

pub unwrap-requires : goal.unwrap-requires
unwrap-requires c =
    let days : to_z w64 c.args.days ≡ pos c.args.days = omega (arith, ints) in
    let only : IsOnly Day (pos c.args.days) c.days.result = subst (λ z. IsOnly Day z c.days.result) days c.days.ensures in
    let start : epoch_day c.date.result ≡ pos 0 = first_day c.date.result c.date.ensures.0 c.date.ensures.1 c.date.ensures.2 in
    c.checked_add.ensures.succeeds.1 ((can_add-days c.date.result (pos c.args.days) c.days.result only).1 (omega (arith, signed_arith)))

pub returns : goal.returns
returns c =
    let days : to_z w64 c.args.days ≡ pos c.args.days = omega (arith, ints) in
    let only : IsOnly Day (pos c.args.days) c.days.result = subst (λ z. IsOnly Day z c.days.result) days c.days.ensures in
    let start : epoch_day c.date.result ≡ pos 0 = first_day c.date.result c.date.ensures.0 c.date.ensures.1 c.date.ensures.2 in
    let moved : epoch_day c.unwrap.result ≡ date_add c.date.result c.days.result = subst (λ r. IfOk r (λ d. epoch_day d ≡ date_add c.date.result c.days.result)) c.unwrap.ensures c.checked_add.ensures.value in
    moved ∙ date_add-days c.date.result (pos c.args.days) c.days.result only ∙ omega (arith, signed_arith)
