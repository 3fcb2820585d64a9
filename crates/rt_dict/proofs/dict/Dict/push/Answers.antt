use Rattle.std.proofs.Common.{◌≡◌, ◌++◌, ◌∷◌, [], true, length, length-append, sym, ap, subst, ◌∙◌, arith}
use Rattle.rt_dict.specs.Values.{IsAscending, is_past_last}
use Rattle.rt_dict.proofs.Distinct.{ascending_push}
use Rattle.rt_dict.proofs.dict.Dict.push.Goals as goal

pub invariant_of-self-2 : goal.invariant_of-self-2
invariant_of-self-2 g c =
    let below = g.K.Key.below in
    let values = c.self.inside.values.items in
    let items : c.push.new.self.items ≡ values ++ c.args.value ∷ [] = c.in_ok-push.ensures.items in
    let answer : c.is_past.result ≡ is_past_last below values c.args.value = c.is_past.ensures ∙ ap (λ xs. is_past_last below xs c.args.value) c.deref.ensures.value in
    let told : c.is_past.result ≡ true = cc in
    let kept = ascending_push g.met.K.Key.order values c.args.value c.self.invariant.1 (sym answer ∙ told) in
    (omega (arith, ap length items, length-append values (c.args.value ∷ []), c.requires, ap length c.self.view_is), subst (IsAscending below) (sym items) kept)
