use Rattle.std.proofs.Common.{◌≡◌, ◌++◌, drop, take, length, length-drop, take_all, ap, sym, ◌∙◌, arith}
use Rattle.std.proofs.lemmas.List.{take-append-drop}
use Rattle.std.proofs.lemmas.Slice.Eq.{bytes_eq-Decides}
use Rattle.rt_schema.proofs.plain_reader.behind_all.Goals as goal

pub returns-then-eq : goal.returns-then-eq
returns-then-eq c =
    let text = c.args.text.now in
    let first = c.args.first.now in
    let behind : take _ (drop (length first) text) ≡ drop (length first) text = take_all _ (drop (length first) text) (omega (arith, length-drop (length first) text)) in
    let front : take (length first) text ≡ first = (bytes_eq-Decides (take (length first) text) first).0 (sym (c.if-eq.ensures {u = tt})) in
    let whole : text ≡ first ++ drop (length first) text = sym (take-append-drop (length first) text) ∙ ap (λ xs. xs ++ drop (length first) text) front in
    whole ∙ ap (λ xs. first ++ xs) (sym behind)
