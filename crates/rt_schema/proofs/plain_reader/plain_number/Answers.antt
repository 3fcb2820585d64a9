use Rattle.std.proofs.Common.{◌≡◌, ◌++◌, drop, take, length-drop, take_all, ap, sym, subst, ◌∙◌, arith}
use Rattle.std.specs.Str.{IsUtf8}
use Rattle.std.proofs.lemmas.List.{take-append-drop}
use Rattle.rt_schema.proofs.plain_reader.plain_number.Goals as goal

pub returns-then-is_number : goal.returns-then-is_number
returns-then-is_number c =
    let text = c.args.text.now in
    let end = c.number_end-end.result in
    let s = c.in-Ok.numeral.now in
    let behind : take _ (drop end text) ≡ drop end text = take_all _ (drop end text) (omega (arith, length-drop end text)) in
    let whole : text ≡ s ++ drop end text = sym (take-append-drop end text) ∙ ap (λ xs. xs ++ drop end text) (sym c.in-Ok.ensures.cases.0) in
    (whole ∙ ap (λ xs. s ++ xs) (sym behind), c.is_number.ensures.0 c.if-is_number.true, subst IsUtf8 (sym c.in-Ok.ensures.cases.0) c.in-Ok.ensures.cases.1)
