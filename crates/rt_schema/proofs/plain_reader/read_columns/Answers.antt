use Rattle.std.proofs.Common.{◌++◌, ◌∷◌, ◌+◌, IfSome, nat_lt, ap, sym, subst, ◌∙◌, arith, take}
use Rattle.std.specs.Str.{IsUtf8}
use Rattle.json.specs.Print.{quoted}
use Rattle.rt_schema.specs.Plain.{comma_if, ArePlain, IsCellAt}
use Rattle.rt_schema.proofs.Plain.{plain_more, plain_none}
use Rattle.rt_schema.proofs.plain_reader.read_columns.Goals as goal

pub loop-place-init : goal.loop-place-init
loop-place-init c = subst (λ vs. ArePlain (take 0 c.args.columns.now) c.args.text.now vs c.args.text.now) (sym c.requires) (plain_none c.args.columns.now c.args.text.now)

pub loop-place-preserved : goal.loop-place-preserved
loop-place-preserved c =
    let l = c.loop-place in
    let column = c.index-columns-place.result in
    let start = c.in-Some.behind.now in
    let behind = c.in-Some-2.behind.now in
    let name : IsUtf8 column.name = subst IsUtf8 c.as_str.ensures c.as_str.utf8 in
    let key = c.in-Some.ensures ∙ ap (λ n. comma_if (nat_lt 0 l.place) ++ (quoted n ++ 58 ∷ start)) c.as_str.ensures in
    let cell = subst (λ o. IfSome o (λ p. IsCellAt column start p.0 p.1.now)) c.in-Some-2.is (c.in_ok-value.ensures {u = tt}) in
    let are = plain_more c.args.columns.now l.place column c.args.text.now l.values l.rest.now start behind c.in-Some-2.value (omega arith) c.index-columns-place.is name l.invariant key cell in
    subst (λ vs. ArePlain (take (l.place + 1) c.args.columns.now) c.args.text.now vs behind) (sym ((c.in_ok-push.ensures {u = tt}).ok)) are
