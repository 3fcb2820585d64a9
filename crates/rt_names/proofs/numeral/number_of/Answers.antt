use Rattle.std.proofs.Common.{◌≡◌, false, sym, ap, ◌∙◌}
use Rattle.std.proofs.lemmas.Bool.{true≢false}
use Rattle.std.proofs.lemmas.Option.{none-some}
use Rattle.rt_names.specs.Parts.{is_led}
use Rattle.rt_names.proofs.Numerals.{decimal_unled, parsed, ok_some}
use Rattle.rt_names.proofs.numeral.number_of.Goals as goal

pub returns-then-is_led : goal.returns-then-is_led
returns-then-is_led c n = (
  λ none. absurd (none-some _ none),
  λ is. absurd (true≢false (c.if-is_led.ensures ∙ ap is_led (c.as_bytes.ensures.value ∙ is.1) ∙ decimal_unled n is.0)),
)

pub returns : goal.returns
returns c n =
    let unled : is_led c.args.text.now ≡ false = ap is_led (sym c.as_bytes.ensures.value) ∙ sym c.if-is_led.ensures in
    let reads = parsed c.args.text.now c.parse.result c.parse.ensures.value.0 unled n in
    let value = ok_some c.parse.result n in
    (λ is. reads.0 (value.0 (sym c.ok.ensures.value ∙ is)), λ is. c.ok.ensures.value ∙ value.1 (reads.1 is))
