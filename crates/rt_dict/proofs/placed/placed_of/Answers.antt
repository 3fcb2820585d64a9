use Rattle.std.proofs.Common.{◌++◌, ◌∷◌, [], map, take, sym, ap, ◌∙◌, arith}
use Rattle.std.proofs.lemmas.List.{map_push, take_more}
use Rattle.rt_dict.proofs.Numbering.{range_more}
use Rattle.rt_dict.proofs.placed.placed_of.Goals as goal

pub loop-place-preserved : goal.loop-place-preserved
loop-place-preserved g c =
    let at = c.loop-place in
    let keys = c.args.keys.now in
    let key = c.in_ok-key.key in
    let pushed = c.in_ok-push.ensures.items in
    let here = take_more keys at.place c.index-keys-place.result c.loop-place-test.true in
    record {
      keys = ap (map (λ p. p.key)) pushed ∙ map_push (λ p. p.key) at.all.items _ ∙ ap (λ l. l ++ key ∷ []) at.invariant.keys
          ∙ ap (λ k. take at.place keys ++ k ∷ []) (c.in_ok-key.ensures ∙ c.index-keys-place.is) ∙ sym here;
      places = ap (map (λ p. p.place)) pushed ∙ map_push (λ p. p.place) at.all.items _ ∙ ap (λ l. l ++ at.place ∷ []) at.invariant.places ∙ sym (range_more 0 at.place at.place (omega arith));
    }
