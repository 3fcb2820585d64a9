use Rattle.std.proofs.Common.{◌≡◌, ◌≤◌, ◌+◌, ◌++◌, ◌∷◌, [], length, map, sym, ap, subst, ◌∙◌, append_assoc, arith}
use Rattle.std.specs.List.Sorted.{IsSortedBy}
use Rattle.std.specs.Vec.Iter.{into_iter_items}
use Rattle.std.proofs.lemmas.List.{length-append, length-set}
use Rattle.rt_dict.proofs.Numbering.{IsPlaced, with_key, with_key_few, distinct_more, ids_more, placed_at}
use Rattle.rt_dict.proofs.dict.number.Goals as goal

pub loop-placed-preserved : goal.loop-placed-preserved
loop-placed-preserved g c =
    let at = c.loop-placed in
    let x = c.in-Some.placed in
    let below = g.K.Key.below in
    let rest = into_iter_items c.next.new.self in
    let steps : into_iter_items at.placed-iterator ≡ x ∷ rest = c.in-Some.ensures.steps.0 in
    let whole : at.yielded ++ x ∷ rest ≡ c.args.sorted.items = rw (← steps) at.invariant.list in
    let row : IsSortedBy below (map (λ p. p.key) (at.yielded ++ x ∷ rest)) = subst (λ l. IsSortedBy below (map (λ p. p.key) l)) (sym whole) c.requires.sorted in
    let values : c.id_or_new.new.values.items ≡ with_key below at.values.items x.key = c.in_ok-ids-2.ensures.values in
    let id : c.in_ok-ids-2.field-0 + 1 ≡ length (with_key below at.values.items x.key) = c.in_ok-ids-2.ensures.id ∙ ap length values in
    let grown : length (with_key below at.values.items x.key) ≤ length at.values.items + 1 = with_key_few below at.values.items x.key in
    let here : IsPlaced (λ p. p.key) (λ p. p.place) c.args.keys.now x = placed_at (λ p. p.key) (λ p. p.place) c.args.keys.now at.yielded rest x c.args.sorted.items whole c.requires.places in
    let more = ids_more (λ p. p.key) (λ p. p.place) c.args.keys.now g.met.K.Key.order at.yielded rest x row at.values.items at.invariant.distinct at.ids.items c.in_ok-ids-2.field-0 at.invariant.size here id at.invariant.ids in
    record {
      can = tt;
      finite = tt;
      list = append_assoc at.yielded (x ∷ []) rest ∙ whole;
      left = omega (arith, at.invariant.left, c.in-Some.ensures.steps.1, ap length steps);
      few = omega (arith, ap length values, grown, length-append at.yielded (x ∷ []), at.invariant.few);
      size = length-set at.ids.items x.place c.in_ok-ids-2.field-0 ∙ at.invariant.size;
      distinct = rw values (distinct_more (λ p. p.key) (λ p. p.place) c.args.keys.now g.met.K.Key.order at.yielded rest x row at.values.items at.invariant.distinct);
      ids = rw values more;
    }
